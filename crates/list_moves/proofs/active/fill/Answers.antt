-- `list_moves::active::fill` meets its contract.
use Rattle.std.proofs.Common.{refl, arith}
use Rattle.memory.specs.Memory.{cells_of}
use Rattle.list_moves.proofs.Sweeping.{filled}
use Rattle.list_moves.proofs.active.fill.Goals as goal

pub returns : goal.returns
returns c =
    let a = c.args in
    let c₀ = cells_of a.times.now a.levels.now a.marks.now a.numbers.now in
    let p = c.requires in
    filled c₀ c.sized.ensures a.i (omega (arith, p.0, p.1)) a.n p.0 p.1 p.2 _ c.copy_slot.ensures _ refl
