-- `list_moves::starts::start_first` meets its contract.
use Rattle.std.proofs.Common.{◌∙◌, arith}
use Rattle.event.specs.Blank.{blank}
use Rattle.memory.specs.Memory.{cells_of}
use Rattle.memory.specs.Laws.{waits-read}
use Rattle.list_moves.proofs.Starting.{begun_first}
use Rattle.list_moves.proofs.starts.start_first.Goals as goal

pub returns : goal.returns
returns c =
    let a = c.args in
    let here = cells_of a.times.now a.levels.now a.marks.now a.numbers.now in
    begun_first here _ _ _ _ _ (c.event_at-first.ensures ∙ waits-read here 0 blank (omega arith)) c.take_edit-event.ensures.engine c.take_edit-event.ensures.answer c.pop.ensures c.append.ensures
