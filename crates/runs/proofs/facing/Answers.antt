-- `runs::facing` meets its contract. Assumes nothing.
use lib.Ieee.{of_bits}
use Rattle.runs.proofs.facing.Goals as goal

pub returns-then-rising : goal.returns-then-rising
returns-then-rising c = rw c.if-rising.true

pub returns-else-rising : goal.returns-else-rising
unfolding of_bits
returns-else-rising c = rw c.if-rising.false
