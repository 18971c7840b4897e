-- `sequencer::Sequencer::all_to_ready` meets its contract.
use Rattle.std.proofs.Common.{◌+◌, ◌≤◌}
use Rattle.sequencer.specs.Moves.{to_ready}
use Rattle.sequencer.specs.Turns.{Readying}
use Rattle.sequencer.proofs.Sequencer.all_to_ready.Given as goal

-- from place i on the definition gives its result
abbrev pub invariant-loop-i : goal.invariant-loop-i
invariant-loop-i l = (l.past ≤ 256) × (l.n ≤ l.past + 256) × Readying l.n l.past l.i l.self (to_ready l.n l.past 0 l.initial.self)
