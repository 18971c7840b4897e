-- `sequencer::Sequencer::edit_relative` meets its contract. Assumes nothing.
use Rattle.ledger.specs.Refusals.{edit_end}
use Rattle.sequencer.specs.Edits.{edits}
use Rattle.sequencer.proofs.Sequencer.edit_relative.Goals as goal

pub returns : goal.returns
unfolding edits edit_end
returns c = c.amend.ensures
