-- `refusals::times_within` meets its contract. Assumes nothing.
use Rattle.std.proofs.Common.{◌≡◌, ◌&&◌, sym, ◌∙◌}
use Rattle.ledger.specs.Refusals.{within, within_end}
use Rattle.refusals.proofs.times_within.Goals as goal
use Rattle.refusals.proofs.times_within.Goals.{Joined-within, Joined-within_end, then-within, else-within, then-within_end, else-within_end}

two : (c : Joined-within) → (let a = c.args in c.if-within.value ≡ (within a.start && within_end a.end))
two c =
    let q = sym c.within.ensures in
    elim c.if-within.branch [
      | then-within w ↦ rw (q ∙ w.if-within.true) (w.value-is ∙ w.within_end.ensures)
      | else-within w ↦ rw (q ∙ w.if-within.false) (w.value-is ∙ w.if-within.false)
    ]

three : (c : Joined-within_end) → (let a = c.args in c.if-within_end.value ≡ (within a.start && within_end a.end && within a.fade_in))
three c =
    let q = sym (two c.before) in
    elim c.if-within_end.branch [
      | then-within_end w ↦ rw (q ∙ w.if-within_end.true) (w.value-is ∙ w.within-then-within_end.ensures)
      | else-within_end w ↦ rw (q ∙ w.if-within_end.false) (w.value-is ∙ w.if-within_end.false)
    ]

pub returns-then-within-2 : goal.returns-then-within-2
returns-then-within-2 c = rw (sym (three c.before.before) ∙ c.if-within-2.true) c.within-then-within-2.ensures

pub returns-else-within-2 : goal.returns-else-within-2
returns-else-within-2 c = rw (sym (three c.before) ∙ c.if-within-2.false) c.if-within-2.false
