use mathlib.Core.Path.{refl}
use native.Mathlib.Omega.{arith}
use borrow.Author.Tests.{eq-eqb, ne_eqb}
use Rattle.chart.specs.Scale.{lanes_end}
use Rattle.chart.proofs.lanes_end.Goals as goal

pub returns-then-n-eq0 : goal.returns-then-n-eq0
unfolding lanes_end
returns-then-n-eq0 c = record { value = rw (eq-eqb _ _ c.if-n-eq0.true) refl; upper_bound = omega arith }

pub returns-else-n-eq0 : goal.returns-else-n-eq0
unfolding lanes_end
returns-else-n-eq0 c = record { value = rw (ne_eqb _ _ c.if-n-eq0.false, c.lane.ensures.value) refl; upper_bound = let h = c.lane.ensures.upper_bound in omega arith }
