-- `live::edits::amend` meets its contract.
use Rattle.std.proofs.Common.{refl, ap, ◌∙◌, arith}
use Rattle.refusals.specs.Numbers.{refusal_number, refused_is}
use Rattle.sequencer.specs.declared.Answer.TheVariants.{Refused}
use Rattle.memory.specs.Memory.{cells_of, engine_of}
use Rattle.live.proofs.Told.{found-place, over-is, ends_at, tells-beyond, tells_applied, tells_past, tells-stored, tells-full}
use Rattle.live.proofs.edits.amend.Goals as goal

pub returns-in-Some : goal.returns-in-Some
returns-in-Some c =
    let a = c.args in
    let k = refused_is _ _ _ c.edit_limits.ensures c.in-Some.is in
    let r = tells-beyond (engine_of (cells_of a.times.now a.levels.now a.marks.now a.numbers.now)) a.id a.end a.edit.end_time a.edit.fade_out _ (c.number.ensures ∙ k.0) (λ e. absurd (omega (arith, e, c.number.ensures ∙ k.0, k.1))) in
    record { engine = r.0; answer = r.1; refused = λ h. refl }

pub put_end-requires : goal.put_end-requires
put_end-requires c =
    let a = c.args in
    found-place (cells_of a.times.now a.levels.now a.marks.now a.numbers.now) a.id _ c.place-found.ensures _ c.in-Some-found.is

pub returns-then-edit-times : goal.returns-then-edit-times
returns-then-edit-times c =
    let a = c.args in
    let here = cells_of a.times.now a.levels.now a.marks.now a.numbers.now in
    let r = tells_past (engine_of here) a.id a.end a.edit.end_time a.edit.fade_out _ c.edit_limits.ensures (ap refusal_number c.in_default.is) _ c.place-found.ensures c.in-None.is (over-is here a.edit.end_time ∙ c.if-edit-times.true) in
    record { engine = r.0; answer = r.1; refused = λ h. absurd h }

pub returns-then-store_edit : goal.returns-then-store_edit
returns-then-store_edit c =
    let a = c.args in
    let here = cells_of a.times.now a.levels.now a.marks.now a.numbers.now in
    let r = tells-full (engine_of here) a.id a.end a.edit.end_time a.edit.fade_out _ c.edit_limits.ensures (ap refusal_number c.in_default.is) _ c.place-found.ensures c.in-None.is (over-is here a.edit.end_time ∙ c.if-edit-times.false) _ c.store_edit.ensures.full c.if-store_edit.true _ c.store_edit.ensures.engine in
    record { engine = r.0; answer = ap Refused c.number-then-store_edit.ensures ∙ r.1; refused = λ h. c.store_edit.ensures.refused c.if-store_edit.true }

pub returns-in-Some-found : goal.returns-in-Some-found
returns-in-Some-found c =
    let a = c.args in
    let here = cells_of a.times.now a.levels.now a.marks.now a.numbers.now in
    let r = tells_applied (engine_of here) a.id a.end a.edit.end_time a.edit.fade_out _ c.edit_limits.ensures (ap refusal_number c.in_default.is) _ c.place-found.ensures _ c.in-Some-found.is _ (ends_at here c.sized.ensures a.id _ c.place-found.ensures _ c.in-Some-found.is a.edit.end_time a.edit.fade_out _ c.put_end.ensures) in
    record { engine = r.0; answer = r.1; refused = λ h. absurd h }

pub returns-else-store_edit : goal.returns-else-store_edit
returns-else-store_edit c =
    let a = c.args in
    let here = cells_of a.times.now a.levels.now a.marks.now a.numbers.now in
    let r = tells-stored (engine_of here) a.id a.end a.edit.end_time a.edit.fade_out _ c.edit_limits.ensures (ap refusal_number c.in_default.is) _ c.place-found.ensures c.in-None.is (over-is here a.edit.end_time ∙ c.if-edit-times.false) _ c.store_edit.ensures.full c.if-store_edit.false _ c.store_edit.ensures.engine in
    record { engine = r.0; answer = r.1; refused = λ h. absurd h }
