-- `mixing::phase_step` meets its contract. Assumes nothing.
use Rattle.ledger.specs.BlockSamples.{phase_step}
use Rattle.mixing.proofs.phase_step.Goals as goal

pub returns : goal.returns
unfolding phase_step
returns c = c.narrow.ensures
