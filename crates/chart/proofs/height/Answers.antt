use mathlib.Core.Path.{refl}
use native.Mathlib.Omega.{arith}
use Rattle.chart.specs.Scale.{height_of}
use Rattle.chart.proofs.height.Goals as goal

pub returns : goal.returns
unfolding height_of
returns c = record { value = rw (c.min.ensures, c.from.ensures, c.scaled.ensures) refl; upper_bound = let e = c.min.ensures in let w = c.from.ensures in omega arith }
