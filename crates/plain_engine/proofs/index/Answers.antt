-- `plain_engine::index` meets its contract.
use Rattle.std.proofs.Common.{refl}
use Rattle.memory.specs.Memory.{cells_of, id_at}
use Rattle.plain_engine.proofs.Reading.{filled, fills, all-filled}
use Rattle.plain_engine.proofs.index.Goals as goal

pub loop-i-init : goal.loop-i-init
loop-i-init c = filled _ _ 256 _ refl

pub loop-i-preserved : goal.loop-i-preserved
loop-i-preserved c =
    let a = c.args in
    fills (id_at (cells_of a.times.now a.levels.now a.marks.now a.numbers.now)) 768 256 _ _ _ c.loop-i-test.true refl c.loop-i.invariant

pub returns : goal.returns
returns c = all-filled _ _ 256 _ _ c.loop-i-test.false c.loop-i.invariant
