-- `little_endian::put_word` meets its contract. Assumes nothing.
use Prim.Native.Nat.{◌+◌, ◌-◌}
use Rattle.listing.specs.Putting.{Putting}
use Rattle.little_endian.specs.LowBytes.{little_endian}
use Rattle.little_endian.proofs.put_word.Given as goal

abbrev pub invariant-loop-i : goal.invariant-loop-i
invariant-loop-i l = Putting l.initial.out l.at (little_endian l.width l.n) l.out (little_endian (l.width - l.i) l.rest) (l.at + l.i)
