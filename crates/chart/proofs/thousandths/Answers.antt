use lib.Ieee.{round, of_bits}
use mathlib.Core.Path.{refl}
use Rattle.floats.specs.Arithmetic.{whole}
use Rattle.chart.specs.Scale.{thousandths_of}
use Rattle.chart.proofs.thousandths.Goals as goal

pub returns : goal.returns
unfolding thousandths_of of_bits whole round
returns c = rw c.nearest_index.ensures refl
