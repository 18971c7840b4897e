-- `sequencer::Sequencer::active_to_past` meets its contract.
use Rattle.std.proofs.Common.{◌-◌}
use Rattle.sequencer.specs.Moves.{active_to_past}
use Rattle.sequencer.specs.Turns.{Finishing}
use Rattle.sequencer.proofs.Sequencer.active_to_past.Given as goal

-- from place i on the definition gives its result
abbrev pub invariant-loop-i : goal.invariant-loop-i
invariant-loop-i l = Finishing l.limit l.self l.i (active_to_past l.initial.self l.limit)

abbrev pub decreases-loop-i : goal.decreases-loop-i
decreases-loop-i l = l.self.active_len - l.i
