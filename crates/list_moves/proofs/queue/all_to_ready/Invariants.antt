-- `list_moves::queue::all_to_ready` meets its contract.
use Rattle.std.proofs.Common.{◌+◌, ◌≤◌}
use Rattle.sequencer.specs.Moves.{to_ready}
use Rattle.sequencer.specs.Turns.{Readying}
use Rattle.memory.specs.Memory.{cells_of, engine_of}
use Rattle.list_moves.proofs.queue.all_to_ready.Given as goal

abbrev pub invariant-loop-k : goal.invariant-loop-k
invariant-loop-k l = (l.past ≤ 256) × (l.n ≤ l.past + 256) × Readying l.n l.past l.k (engine_of (cells_of l.times l.levels l.marks l.numbers)) (to_ready l.n l.past 0 (engine_of (cells_of l.initial.times l.initial.levels l.initial.marks l.initial.numbers)))
