use mathlib.Core.Path.{sym, ◌∙◌}
use native.Mathlib.Omega.{arith}
use Rattle.chart.proofs.Numbers.{column_none, column_at, column_within}
use Rattle.chart.proofs.column.Goals as goal

pub returns-then-whole-eq0 : goal.returns-then-whole-eq0
returns-then-whole-eq0 c = record { value = column_none c.args.time c.args.total (sym c.min-whole.ensures ∙ c.if-whole-eq0.true); upper_bound = omega arith }

pub returns : goal.returns
returns c =
    let a = c.args in
    let n = c.min-whole in
    record {
      value = rw (c.min.ensures, n.ensures) (column_at a.time a.total (λ e. c.if-whole-eq0.false (n.ensures ∙ e)));
      upper_bound = rw c.min.ensures (column_within a.time n.result);
    }
