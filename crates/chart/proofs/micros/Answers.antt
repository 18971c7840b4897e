use lib.Ieee.{round, of_bits}
use mathlib.Core.Path.{refl}
use Rattle.floats.specs.Arithmetic.{whole}
use Rattle.chart.specs.Scale.{micros_of}
use Rattle.chart.proofs.micros.Goals as goal

pub returns : goal.returns
unfolding micros_of of_bits whole round
returns c = rw (c.min.ensures, c.nearest_index.ensures) refl
