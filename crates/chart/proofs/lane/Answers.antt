use mathlib.Core.Path.{refl}
use native.Mathlib.Omega.{arith}
use Rattle.chart.specs.Scale.{lane_of}
use Rattle.chart.proofs.lane.Goals as goal

pub returns : goal.returns
unfolding lane_of
returns c = record { value = rw c.min-k.ensures refl; upper_bound = let e = c.min-k.ensures in omega arith }
