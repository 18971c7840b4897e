-- `list_moves::heap::push_event` meets its contract.
use Rattle.memory.specs.Memory.{cells_of}
use Rattle.list_moves.proofs.Rising.{enters_sounding, enters_waiting}
use Rattle.list_moves.proofs.heap.push_event.Goals as goal

pub returns-then-event-times : goal.returns-then-event-times
returns-then-event-times c =
    let a = c.args in
    let r = enters_sounding (cells_of a.times.now a.levels.now a.marks.now a.numbers.now) _ a.event c.if-event-times.true c.append.ensures in
    record { engine = r.0; rise = r.1 }

pub returns : goal.returns
returns c =
    let a = c.args in
    let r = enters_waiting (cells_of a.times.now a.levels.now a.marks.now a.numbers.now) _ a.event _ c.if-event-times.false (c.wait.ensures.engine, c.wait.ensures.rise) in
    record { engine = r.0; rise = r.1 }
