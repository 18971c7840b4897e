-- `list_moves::active::release_past` meets its contract.
use Rattle.std.proofs.Common.{refl, ne_eqb}
use Rattle.memory.specs.Memory.{cells_of}
use Rattle.list_moves.proofs.Sweeping.{kept-all, let_go}
use Rattle.list_moves.proofs.active.release_past.Goals as goal

pub returns-then-numbers-eq0 : goal.returns-then-numbers-eq0
returns-then-numbers-eq0 c =
    let a = c.args in
    kept-all (cells_of a.times.now a.levels.now a.marks.now a.numbers.now) c.if-numbers-eq0.true

pub returns : goal.returns
returns c =
    let a = c.args in
    let_go (cells_of a.times.now a.levels.now a.marks.now a.numbers.now) _ c.sized.ensures (ne_eqb _ 0 c.if-numbers-eq0.false) refl
