-- `live::resets::reset` meets its contract.
use Rattle.std.proofs.Common.{ne_eqb}
use Rattle.memory.specs.Memory.{cells_of}
use Rattle.live.proofs.Again.{reset-all, reset-none}
use Rattle.live.proofs.resets.reset.Goals as goal

pub returns-then-numbers-eq0 : goal.returns-then-numbers-eq0
returns-then-numbers-eq0 c =
    let a = c.args in
    reset-all (cells_of a.times.now a.levels.now a.marks.now a.numbers.now) _ _ _ _ _ c.sized.ensures c.start_over.ensures _ c.all_to_ready.ensures c.rewind_ready.ensures c.if-numbers-eq0.true

pub returns : goal.returns
returns c =
    let a = c.args in
    reset-none (cells_of a.times.now a.levels.now a.marks.now a.numbers.now) _ _ _ _ _ c.sized-2.ensures c.start_over-2.ensures c.let_all_go.ensures (ne_eqb _ 0 c.if-numbers-eq0.false)
