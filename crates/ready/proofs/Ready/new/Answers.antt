use mathlib.Core.Path.{refl}
use Rattle.ready.specs.Waiting.{emptied}
use Rattle.ready.proofs.Ready.new.Goals as goal

pub returns : goal.returns
unfolding emptied lib.Ieee.of_bits
returns c = refl
