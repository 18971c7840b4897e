-- `sequencer::Sequencer::rise_of` meets its contract.
use Rattle.sequencer.specs.Rises.{rise_ready, rise_of}
use Rattle.sequencer.proofs.Sequencer.rise_of.Goals as goal

pub returns-then-event-self : goal.returns-then-event-self
unfolding rise_of
returns-then-event-self c = rw c.if-event-self.true

pub returns : goal.returns
unfolding rise_of rise_ready
returns c = rw c.if-event-self.false c.rise.ensures
