use mathlib.Core.Path.{refl}
use Rattle.chart.specs.Scale.{later_by}
use Rattle.chart.proofs.later.Goals as goal

pub returns : goal.returns
unfolding later_by
returns c = rw (c.min-3.ensures, c.min.ensures, c.min-2.ensures) refl
