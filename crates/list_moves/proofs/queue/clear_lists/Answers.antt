-- `list_moves::queue::clear_lists` meets its contract.
use Rattle.memory.specs.Memory.{cells_of}
use Rattle.list_moves.proofs.Requeuing.{lists-cleared}
use Rattle.list_moves.proofs.queue.clear_lists.Goals as goal

pub returns : goal.returns
returns c =
    let a = c.args in
    lists-cleared (cells_of a.times.now a.levels.now a.marks.now a.numbers.now) c.sized.ensures
