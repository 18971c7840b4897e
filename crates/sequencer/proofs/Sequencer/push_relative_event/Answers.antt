-- `sequencer::Sequencer::push_relative_event` meets its contract. Assumes nothing.
use Rattle.sequencer.specs.Moves.{pushed_relative}
use Rattle.sequencer.proofs.Sequencer.push_relative_event.Goals as goal

pub returns : goal.returns
unfolding pushed_relative
returns c = c.push_event.ensures
