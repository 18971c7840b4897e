-- `list_moves::active::keep` meets its contract.
use Rattle.std.proofs.Common.{refl}
use Rattle.memory.specs.Memory.{cells_of}
use Rattle.list_moves.proofs.Sweeping.{kept-room, below, above}
use Rattle.list_moves.proofs.active.keep.Goals as goal

pub returns-then-k-lt-ROOM : goal.returns-then-k-lt-ROOM
returns-then-k-lt-ROOM c =
    let a = c.args in
    let c₀ = cells_of a.times.now a.levels.now a.marks.now a.numbers.now in
    record { room = λ h. kept-room c₀ c.sized.ensures a.i c.requires _ refl _ c.copy_slot.ensures c.if-k-lt-ROOM.true; full = λ h. above c₀ c.sized.ensures a.i c.requires _ refl h c.if-k-lt-ROOM.true }

pub returns-else-k-lt-ROOM : goal.returns-else-k-lt-ROOM
returns-else-k-lt-ROOM c =
    let a = c.args in
    let c₀ = cells_of a.times.now a.levels.now a.marks.now a.numbers.now in
    record { room = λ h. below c₀ c.sized.ensures a.i c.requires _ refl h c.if-k-lt-ROOM.false; full = λ h. refl }
