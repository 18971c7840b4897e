-- `list_moves::edits::take_edit` meets its contract.
use Rattle.std.proofs.Common.{ap, ◌∙◌, arith}
use Rattle.event.specs.declared.Edit.{Edit}
use Rattle.event.specs.Events.{edited_by}
use Rattle.memory.specs.Memory.{cells_of}
use Rattle.memory.specs.Edits.{edits_count}
use Rattle.list_moves.proofs.Storing.{found-place, takes, takes_none}
use Rattle.list_moves.proofs.edits.take_edit.Goals as goal

pub edit_at-edit-requires : goal.edit_at-edit-requires
edit_at-edit-requires c =
    let a = c.args in
    let h = found-place (cells_of a.times.now a.levels.now a.marks.now a.numbers.now) a.event.id _ c.find_edit-found.ensures _ c.in-Some.is in
    omega (arith, h.0, h.1)

pub close_gap-requires : goal.close_gap-requires
close_gap-requires c =
    let a = c.args in
    let here = cells_of a.times.now a.levels.now a.marks.now a.numbers.now in
    let h = found-place here a.event.id _ c.find_edit-found.ensures _ c.in-Some.is in
    (omega (arith, h.0, edits_count here), omega (arith, h.1, edits_count here), edits_count here)

pub returns-in-Some : goal.returns-in-Some
returns-in-Some c =
    let a = c.args in
    let here = cells_of a.times.now a.levels.now a.marks.now a.numbers.now in
    let r = takes here a.event.id _ c.find_edit-found.ensures a.event _ c.in-Some.is _ c.close_gap.ensures _ (c.edited.ensures ∙ ap (λ (d : Edit). edited_by d a.event) c.edit_at-edit.ensures) in
    record { engine = r.0; answer = r.1 }

pub returns-in-None : goal.returns-in-None
returns-in-None c =
    let a = c.args in
    let r = takes_none (cells_of a.times.now a.levels.now a.marks.now a.numbers.now) a.event.id _ c.find_edit-found.ensures a.event c.in-None.is in
    record { engine = r.0; answer = r.1 }
