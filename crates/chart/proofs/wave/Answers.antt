use mathlib.Core.Path.{refl}
use native.Mathlib.Omega.{arith}
use Rattle.chart.specs.Scale.{wave_of}
use Rattle.chart.proofs.wave.Goals as goal

pub returns : goal.returns
unfolding wave_of
returns c = record { value = rw (c.min.ensures, c.lanes_end.ensures.value) refl; upper_bound = let e = c.min.ensures in let h = c.lanes_end.ensures.upper_bound in omega arith }
