-- `list_moves::edits::store_edit` meets its contract.
use Rattle.std.proofs.Common.{sym, refl, ap, ◌∙◌, true≢false, arith}
use Rattle.memory.specs.Memory.{cells_of, engine_of}
use Rattle.list_moves.proofs.Storing.{found-place, stores_again, stores_new, stores_none, room-again, room-left, room-none}
use Rattle.list_moves.proofs.edits.store_edit.Goals as goal

pub put_edit-requires : goal.put_edit-requires
put_edit-requires c =
    let a = c.args in
    let h = found-place (cells_of a.times.now a.levels.now a.marks.now a.numbers.now) a.id _ c.find_edit-found.ensures _ c.in-Some.is in
    omega (arith, h.0, h.1)

pub returns-then-n-ge-ROOM : goal.returns-then-n-ge-ROOM
returns-then-n-ge-ROOM c =
    let a = c.args in
    let here = cells_of a.times.now a.levels.now a.marks.now a.numbers.now in
    record { engine = stores_none here a.id _ c.find_edit-found.ensures c.sized.ensures a.edit.end_time a.edit.fade_out c.in-None.is _ refl c.if-n-ge-ROOM.true; full = room-none here a.id _ c.find_edit-found.ensures c.in-None.is _ refl c.if-n-ge-ROOM.true; refused = λ h. refl }

pub returns-in-Some : goal.returns-in-Some
returns-in-Some c =
    let a = c.args in
    let here = cells_of a.times.now a.levels.now a.marks.now a.numbers.now in
    record { engine = ap engine_of c.put_edit.ensures ∙ stores_again here a.id _ c.find_edit-found.ensures c.sized.ensures a.edit.end_time a.edit.fade_out _ c.in-Some.is; full = room-again here a.id _ c.find_edit-found.ensures _ _ c.in-Some.is; refused = λ h. absurd (true≢false (sym h)) }

pub returns-else-n-ge-ROOM : goal.returns-else-n-ge-ROOM
returns-else-n-ge-ROOM c =
    let a = c.args in
    let here = cells_of a.times.now a.levels.now a.marks.now a.numbers.now in
    record { engine = stores_new here a.id _ c.find_edit-found.ensures c.sized.ensures a.edit.end_time a.edit.fade_out c.in-None.is _ refl c.if-n-ge-ROOM.false _ c.put_edit-in-None.ensures; full = room-left here a.id _ c.find_edit-found.ensures c.in-None.is _ refl c.if-n-ge-ROOM.false; refused = λ h. absurd (true≢false (sym h)) }
