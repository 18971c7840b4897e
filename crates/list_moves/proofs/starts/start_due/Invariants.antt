-- `list_moves::starts::start_due` meets its contract.
use Rattle.std.proofs.Common.{◌≡◌, ◌-◌, ◌≤◌}
use Rattle.sequencer.specs.Moves.{ready_to_active}
use Rattle.sequencer.specs.Turns.{Activating}
use Rattle.memory.specs.Memory.{cells_of, engine_of}
use Rattle.list_moves.proofs.starts.start_due.Given as goal

abbrev pub invariant-loop : goal.invariant-loop
invariant-loop l = (l.n ≤ 256) × (l.n - l.counter ≡ (engine_of (cells_of l.times l.levels l.marks l.numbers)).ready_len) × Activating (engine_of (cells_of l.times l.levels l.marks l.numbers)) (ready_to_active (engine_of (cells_of l.initial.times l.initial.levels l.initial.marks l.initial.numbers)))
