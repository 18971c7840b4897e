-- `refusals::within` meets its contract. Assumes nothing.
use lib.Ieee.{of_bits, round, neg}
use Rattle.floats.specs.Arithmetic.{whole}
use Rattle.ledger.specs.Refusals as Limits
use Rattle.refusals.proofs.within.Goals as goal

pub returns-then-x : goal.returns-then-x
unfolding Limits.within whole of_bits round neg
returns-then-x c = rw c.if-x.true

pub returns-else-x : goal.returns-else-x
unfolding Limits.within whole of_bits round neg
returns-else-x c = rw c.if-x.false
