-- `sequencer::Sequencer::push_event` meets its contract.
use Rattle.sequencer.specs.Moves.{pushed_event}
use Rattle.sequencer.proofs.Sequencer.push_event.Goals as goal

pub returns-then-event-self : goal.returns-then-event-self
unfolding pushed_event
returns-then-event-self c = rw c.if-event-self.true c.push_active.ensures

pub returns : goal.returns
unfolding pushed_event
returns c = rw c.if-event-self.false c.push_ready.ensures
