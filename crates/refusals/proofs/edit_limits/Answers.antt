-- `refusals::edit_limits` meets its contract. Assumes nothing.
use Rattle.std.proofs.Common.{sym, ◌∙◌}
use Rattle.refusals.specs.Refusals.{edit_limits}
use Rattle.refusals.proofs.edit_limits.Goals as goal
use Rattle.refusals.proofs.edit_limits.Goals.{else-within_end-via-then-within_end+else-within, else-within_end-via-else-within_end}

pub returns-then-within : goal.returns-then-within
unfolding edit_limits
returns-then-within c =
    let e = c.before.before in
    rw (sym e.within_end.ensures ∙ e.if-within_end.true, sym c.within.ensures ∙ c.if-within.true)

pub returns-else-within_end : goal.returns-else-within_end
unfolding edit_limits
returns-else-within_end c =
    let q = sym c.within_end.ensures in
    elim c.else-within_end.branch [
      | else-within_end-via-then-within_end+else-within w ↦ rw (q ∙ w.if-within_end.true, sym w.within.ensures ∙ w.if-within.false)
      | else-within_end-via-else-within_end w ↦ rw (q ∙ w.if-within_end.false)
    ]
