-- `plain_engine::edits` meets its contract.
use Rattle.std.proofs.Common.{refl}
use Rattle.memory.specs.Memory.{cells_of, edit_at}
use Rattle.plain_engine.proofs.Reading.{filled, fills, all-filled, edit-at}
use Rattle.plain_engine.proofs.edits.Goals as goal

pub loop-i-init : goal.loop-i-init
loop-i-init c = filled _ _ 256 _ refl

pub loop-i-preserved : goal.loop-i-preserved
loop-i-preserved c =
    let a = c.args in
    let cells = cells_of a.times.now a.levels.now a.marks.now a.numbers.now in
    fills (edit_at cells) 1024 256 _ _ _ c.loop-i-test.true (edit-at cells c.loop-i.i) c.loop-i.invariant

pub returns : goal.returns
returns c = all-filled _ _ 256 _ _ c.loop-i-test.false c.loop-i.invariant
