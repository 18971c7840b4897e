-- `mixing::phase_at` meets its contract. Assumes nothing.
use Rattle.floats.specs.WholeIs.{whole_is}
use Rattle.ledger.specs.BlockSamples.{phase_at}
use Rattle.mixing.proofs.phase_at.Goals as goal

pub returns : goal.returns
unfolding phase_at
returns c =
    rw (whole_is c.args.i, ← c.nearest_u64_to_f64.ensures, ← c.delerp.ensures) c.narrow.ensures
