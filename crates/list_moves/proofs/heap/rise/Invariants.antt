-- `list_moves::heap::rise` meets its contract.
use Rattle.memory.specs.Memory.{cells_of, engine_of}
use Rattle.list_moves.proofs.Rising.{RisingHere}
use Rattle.list_moves.proofs.heap.rise.Given as goal

abbrev pub invariant-loop-i : goal.invariant-loop-i
invariant-loop-i l =
    RisingHere (engine_of (cells_of l.initial.times l.initial.levels l.initial.marks l.initial.numbers)) l.from l.event l.i l.passed (cells_of l.times l.levels l.marks l.numbers)

abbrev pub decreases-loop-i : goal.decreases-loop-i
decreases-loop-i l = l.i
