-- `sequencer::Sequencer::push_relative` meets its contract. Assumes nothing.
use Rattle.ledger.specs.Refusals.{stated_end}
use Rattle.ledger.specs.Steps.{pushed_time}
use Rattle.sequencer.specs.Pushes.{pushes}
use Rattle.sequencer.specs.Rises.{rise_by}
use Rattle.sequencer.proofs.Sequencer.push_relative.Goals as goal

pub returns : goal.returns
unfolding pushes rise_by stated_end pushed_time
returns c = c.push_to.ensures
