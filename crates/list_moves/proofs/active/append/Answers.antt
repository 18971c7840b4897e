-- `list_moves::active::append` meets its contract.
use Rattle.std.proofs.Common.{refl}
use Rattle.memory.specs.Memory.{cells_of}
use Rattle.list_moves.proofs.Sweeping.{sounds_too, full-sounds}
use Rattle.list_moves.proofs.active.append.Goals as goal

pub returns-then-n-lt-ROOM : goal.returns-then-n-lt-ROOM
returns-then-n-lt-ROOM c =
    let a = c.args in
    sounds_too (cells_of a.times.now a.levels.now a.marks.now a.numbers.now) a.event _ refl c.sized.ensures c.if-n-lt-ROOM.true _ c.put_event.ensures

pub returns-else-n-lt-ROOM : goal.returns-else-n-lt-ROOM
returns-else-n-lt-ROOM c =
    let a = c.args in
    full-sounds (cells_of a.times.now a.levels.now a.marks.now a.numbers.now) a.event _ refl c.if-n-lt-ROOM.false
