use Rattle.std.proofs.Common.{◌≡◌, drop}
use Rattle.chart.specs.Scale.{steps, step_in}
use Rattle.chart.proofs.step.Given as goal

abbrev pub invariant-loop-s : goal.invariant-loop-s
invariant-loop-s l = step_in (drop l.s-index steps) l.total ≡ step_in steps l.total
