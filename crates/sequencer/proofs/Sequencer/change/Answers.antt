-- `sequencer::Sequencer::change` meets its contract. Assumes nothing.
use Rattle.sequencer.proofs.Sequencer.change.Goals as goal

pub returns : goal.returns
returns c = c.change_found.ensures
