-- `list_moves::queue::held_event` meets its contract.
use Rattle.memory.specs.Memory.{cells_of}
use Rattle.list_moves.proofs.Requeuing.{held_finished, held_sounding}
use Rattle.list_moves.proofs.queue.held_event.Goals as goal

pub returns-then-k-past : goal.returns-then-k-past
returns-then-k-past c =
    let a = c.args in
    held_finished (cells_of a.times.now a.levels.now a.marks.now a.numbers.now) _ _ _ c.if-k-past.true c.requires.0 c.event_at.ensures

pub returns : goal.returns
returns c =
    let a = c.args in
    held_sounding (cells_of a.times.now a.levels.now a.marks.now a.numbers.now) _ _ _ c.if-k-past.false c.requires.1 c.event_at-2.ensures
