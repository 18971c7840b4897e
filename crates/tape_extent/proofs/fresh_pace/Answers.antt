-- `tape_extent::fresh_pace` meets its contract. Assumes nothing.
use lib.Ieee.{of_bits, div}
use Rattle.tape_extent.specs.Paces.{fresh_pace}
use Rattle.std.proofs.Common.{rules}
use Rattle.tape_extent.proofs.fresh_pace.Goals as goal

pub returns : goal.returns
unfolding of_bits div fresh_pace
returns c = search rules
