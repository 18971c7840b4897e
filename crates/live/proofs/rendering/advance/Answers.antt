-- `live::rendering::advance` meets its contract.
use lib.Ieee.{of_bits}
use Rattle.memory.specs.Memory.{cells_of}
use Rattle.live.proofs.Begun.{advanced_in}
use Rattle.live.proofs.rendering.advance.Goals as goal

pub returns : goal.returns
unfolding of_bits
returns c =
    let a = c.args in
    advanced_in (cells_of a.times.now a.levels.now a.marks.now a.numbers.now) _ _ _ _ c.sized.ensures c.release_past.ensures c.ready_to_active.ensures c.active_to_past.ensures
