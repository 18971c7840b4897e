-- `list_moves::queue::rewind_ready` meets its contract.
use Rattle.std.proofs.Common.{◌≡◌, min}
use Rattle.sequencer.specs.Turns.{Rewinding}
use Rattle.memory.specs.Memory.{cells_of, engine_of}
use Rattle.memory.specs.Laws.{Sized}
use Rattle.list_moves.proofs.queue.rewind_ready.Given as goal

abbrev pub invariant-loop-k : goal.invariant-loop-k
invariant-loop-k l = (l.n ≡ min (engine_of (cells_of l.times l.initial.levels l.initial.marks l.numbers)).ready_len 256) × Sized (cells_of l.times l.levels l.marks l.numbers)
    × Rewinding (engine_of (cells_of l.times l.initial.levels l.initial.marks l.numbers)) l.n l.k (engine_of (cells_of l.times l.levels l.marks l.numbers))
