-- `mixing::rounded` meets its contract. Assumes nothing.
use Rattle.floats.specs.IndexStep.{sample_index}
use Rattle.ledger.specs.Places.{rounded}
use Rattle.mixing.proofs.rounded.Goals as goal

pub returns : goal.returns
unfolding rounded sample_index
returns c = rw (c.min.ensures, c.placing.ensures, c.sample_index-step.ensures)
