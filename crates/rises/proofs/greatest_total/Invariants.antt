use Rattle.std.proofs.Common.{◌≡◌, ◌*◌, ◌≤◌}
use Rattle.rises.specs.Totals.{bound}
use Rattle.rises.proofs.greatest_total.Given as goal

abbrev pub invariant-loop-k : goal.invariant-loop-k
invariant-loop-k l = (l.total ≡ bound l.k) × (l.total ≤ 256 * l.k)
