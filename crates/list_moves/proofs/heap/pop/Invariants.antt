-- `list_moves::heap::pop` meets its contract.
use Rattle.std.proofs.Common.{◌≡◌, ◌-◌, ◌<◌, ◌≤◌}
use Rattle.sequencer.specs.Rounds.{last_place, last_of, SinkingIn}
use Rattle.memory.specs.Memory.{cells_of, engine_of}
use Rattle.memory.specs.Laws.{Sized}
use Rattle.list_moves.proofs.heap.pop.Given as goal

abbrev pub invariant-loop-i : goal.invariant-loop-i
invariant-loop-i l = (let s = engine_of (cells_of l.initial.times l.initial.levels l.initial.marks l.initial.numbers) in
    Sized (cells_of l.times l.levels l.marks l.numbers) × SinkingIn s l.i (engine_of (cells_of l.times l.levels l.marks l.numbers)) × (l.m ≡ last_place s) × (l.last ≡ last_of s) × (l.m < 256) × (l.i ≤ l.m) × (0 < s.ready_len) × (s.ready_len ≤ 256))

abbrev pub decreases-loop-i : goal.decreases-loop-i
decreases-loop-i l = l.m - l.i
