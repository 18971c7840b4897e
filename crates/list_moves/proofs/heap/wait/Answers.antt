-- `list_moves::heap::wait` meets its contract.
use Rattle.std.proofs.Common.{refl}
use Rattle.memory.specs.Memory.{cells_of}
use Rattle.list_moves.proofs.Rising.{waits_too, full-waits}
use Rattle.list_moves.proofs.heap.wait.Goals as goal

pub returns-then-n-lt-ROOM : goal.returns-then-n-lt-ROOM
returns-then-n-lt-ROOM c =
    let a = c.args in
    let r = waits_too (cells_of a.times.now a.levels.now a.marks.now a.numbers.now) a.event _ refl c.if-n-lt-ROOM.true _ c.sized.ensures _ (c.rise-passed.ensures.engine, c.rise-passed.ensures.passed) in
    record { engine = r.0; rise = r.1 }

pub returns : goal.returns
returns c =
    let a = c.args in
    let r = full-waits (cells_of a.times.now a.levels.now a.marks.now a.numbers.now) a.event _ refl c.if-n-lt-ROOM.false in
    record { engine = r.0; rise = r.1 }
