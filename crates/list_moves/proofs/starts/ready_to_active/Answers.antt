-- `list_moves::starts::ready_to_active` meets its contract.
use lib.Ieee.{of_bits}
use Rattle.memory.specs.Memory.{cells_of}
use Rattle.list_moves.proofs.Starting.{begins-from}
use Rattle.list_moves.proofs.starts.ready_to_active.Goals as goal

pub returns : goal.returns
unfolding of_bits
returns c =
    let a = c.args in
    begins-from (cells_of a.times.now a.levels.now a.marks.now a.numbers.now) _ _ c.sized.ensures c.start_due.ensures
