-- `math::sine_ease` meets its contract: the code is the definition. Assumes nothing.
use mathlib.Core.Path.{refl}
use Rattle.math.specs.Curves.{sine_ease}
use Rattle.math.proofs.sine_ease.Goals as goal

pub returns : goal.returns
unfolding sine_ease
returns c = refl
