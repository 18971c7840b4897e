-- `sequencer::Sequencer::ready_to_active` meets its contract.
use Rattle.sequencer.specs.Moves.{ready_to_active}
use Rattle.sequencer.specs.Turns.{Activating}
use Rattle.sequencer.proofs.Sequencer.ready_to_active.Given as goal

-- from here on the definition gives its result
abbrev pub invariant-loop-self : goal.invariant-loop-self
invariant-loop-self l = Activating l.self (ready_to_active l.initial.self)

abbrev pub decreases-loop-self : goal.decreases-loop-self
decreases-loop-self l = l.self.ready_len
