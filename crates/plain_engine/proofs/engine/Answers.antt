-- `plain_engine::engine` meets its contract.
use Rattle.memory.specs.Memory.{cells_of}
use Rattle.plain_engine.proofs.Reading.{whole}
use Rattle.plain_engine.proofs.engine.Goals as goal

pub returns : goal.returns
returns c =
    let a = c.args in
    whole (cells_of a.times.now a.levels.now a.marks.now a.numbers.now) c.events-ready.ensures c.events-active.ensures c.events-past.ensures
    c.index-active_map.ensures c.edits-items.ensures c.mode_of.ensures
