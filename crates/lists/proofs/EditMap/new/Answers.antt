use Rattle.std.proofs.Common.{refl}
use Rattle.lists.specs.Edits.{emptied}
use Rattle.lists.proofs.EditMap.new.Goals as goal

pub returns : goal.returns
unfolding emptied lib.Ieee.of_bits
returns c = refl
