-- `live::edits::edit_relative` meets its contract.
use Rattle.std.proofs.Common.{refl}
use Rattle.ledger.specs.Calls.{relative_end}
use Rattle.ledger.specs.Refusals.{edit_end}
use Rattle.memory.specs.Memory.{cells_of}
use Rattle.live.proofs.Told.{tells-edit}
use Rattle.live.proofs.edits.edit_relative.Goals as goal

pub returns : goal.returns
unfolding edit_end
returns c =
    let a = c.args in
    let e = c.amend.ensures in
    let r = tells-edit (cells_of a.times.now a.levels.now a.marks.now a.numbers.now) relative_end a.id a.end_time _ a.fade_out _ _ refl _ (e.engine, (e.answer, e.refused)) in
    record { engine = r.0; answer = r.1.0; refused = r.1.1 }
