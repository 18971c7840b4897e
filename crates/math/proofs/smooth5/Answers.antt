-- `math::smooth5` meets its contract: the code is the definition. Assumes nothing.
use mathlib.Core.Path.{refl}
use Rattle.math.specs.Curves.{smooth}
use Rattle.math.proofs.smooth5.Goals as goal

pub returns : goal.returns
unfolding smooth
returns c = refl
