-- `record_output::unread` meets its contract. Assumes nothing.
use borrow.Author.Rules.{rules}
use mathlib.Core.Path.{◌≡◌, sym, ap, ◌∙◌}
use mathlib.Core.List.{[]}
use Prim.Native.Nat.{ℕ, ◌<◌, ◌^◌}
use native.Mathlib.Omega.{arith}
use lib.Dec.{ltb}
use Rattle.record_output.specs.Lines.{room_for}
use Rattle.record_output.proofs.Listed.{unread_end, unread_record, unread_full, unread_bytes, unread_lines, record_line_most}
use mathlib.Core.Logic.{inl, inr}
use Rattle.record_output.proofs.unread.Goals as goal

pub returns-then-is_full : goal.returns-then-is_full
returns-then-is_full c =
    let a = c.args in
    let r = unread_full a.form a.counts a.out.now a.at c.in-Refused.is (ap (λ (k : ℕ). ltb k (room_for a.form [])) (sym c.saturating_sub.ensures) ∙ sym c.is_full.ensures ∙ c.if-is_full.true) in record { pause_value = r.0; used_after = r.1.0; gives = r.1.1 }

pub returns-in-Bytes : goal.returns-in-Bytes
returns-in-Bytes c =
    let a = c.args in
    let r = unread_bytes a.form a.counts a.out.now a.at c.in-Refused.is c.in-Bytes.is
    (ap (λ (k : ℕ). ltb k (room_for a.form [])) (sym c.saturating_sub.ensures) ∙ sym c.is_full.ensures ∙ c.if-is_full.false) in record { pause_value = r.0; used_after = r.1.0; gives = r.1.1 }

pub returns-in-Lines : goal.returns-in-Lines
returns-in-Lines c =
    let a = c.args in
    let r = unread_lines a.form a.counts a.out.now a.at c.in-Refused.is c.in-Lines.is
    (ap (λ (k : ℕ). ltb k (room_for a.form [])) (sym c.saturating_sub.ensures) ∙ sym c.is_full.ensures ∙ c.if-is_full.false)
    (record_line_most _ _ a.counts.waiting a.counts.sounding a.counts.finished a.counts.let_go (search rules) (search rules) (search rules) (search rules) (search rules)) c.put_counts-to.ensures in record { pause_value = r.0; used_after = r.1.0; gives = r.1.1 }

pub returns-in-Record : goal.returns-in-Record
returns-in-Record c =
    let a = c.args in
    elim c.in-Record.is [
      | inl e ↦ let r = unread_record a.form a.counts a.out.now a.at e.3 in record { pause_value = r.0; used_after = r.1.0; gives = r.1.1 }
      | inr e ↦ let r = unread_end a.form a.counts a.out.now a.at e in record { pause_value = r.0; used_after = r.1.0; gives = r.1.1 }
    ]
