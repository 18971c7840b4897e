-- `list_moves::active::active_to_past` meets its contract.
use Rattle.std.proofs.Common.{◌≡◌, ◌-◌, ◌≤◌}
use Rattle.sequencer.specs.Moves.{active_to_past}
use Rattle.sequencer.specs.Turns.{Finishing}
use Rattle.memory.specs.Memory.{cells_of, engine_of}
use Rattle.list_moves.proofs.active.active_to_past.Given as goal

abbrev pub invariant-loop-i : goal.invariant-loop-i
invariant-loop-i l = (l.n ≤ 256) × (l.n ≡ (engine_of (cells_of l.times l.levels l.marks l.numbers)).active_len)
    × Finishing l.limit (engine_of (cells_of l.times l.levels l.marks l.numbers)) l.i (active_to_past (engine_of (cells_of l.initial.times l.initial.levels l.initial.marks l.initial.numbers)) l.limit)

abbrev pub decreases-loop-i : goal.decreases-loop-i
decreases-loop-i l = l.n - l.i
