-- `math::delerp` meets its contract: the code is the definition. Assumes nothing.
use mathlib.Core.Path.{refl}
use Rattle.math.specs.Curves.{delerped}
use Rattle.math.proofs.delerp.Goals as goal

pub returns : goal.returns
unfolding delerped
returns c = refl
