-- `tape_extent::extent_of` meets its contract: the loop keeps `Rolling`, for every pool. Assumes nothing.
use Rattle.std.proofs.Common.{◌-◌, List, length}
use lib.Ieee.{Float}
use Rattle.tape_extent.proofs.Rolling.{Rolling}
use Rattle.tape_extent.proofs.extent_of.Given as goal

abbrev pub invariant-loop : goal.invariant-loop
invariant-loop l = (pool : List Float) → Rolling pool l.tape l.pace l.x l.cursor (length l.tape - l.counter)
