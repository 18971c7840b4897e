-- `batch::beyond` meets its contract. Assumes nothing.
use borrow.Author.Tests.{lt-ltb, le-ltb}
use Rattle.batch.specs.Records.{beyond}
use Rattle.batch.proofs.beyond.Goals as goal

pub returns-then-count-gt32 : goal.returns-then-count-gt32
unfolding beyond
returns-then-count-gt32 c = rw (lt-ltb _ _ c.if-count-gt32.true)

pub returns-else-count-gt32 : goal.returns-else-count-gt32
unfolding beyond
returns-else-count-gt32 c = rw (le-ltb _ _ c.if-count-gt32.false)
