-- `realseq::queues::Messages::push` meets its contract. Assumes nothing.
use Rattle.std.proofs.Common.{le-ltb, lt-ltb}
use Rattle.realseq.specs.Queues.{pushed}
use Rattle.realseq.proofs.queues.Messages.push.Goals as goal

pub returns-then-n-ge64 : goal.returns-then-n-ge64
unfolding pushed
returns-then-n-ge64 c = rw (le-ltb _ _ c.if-n-ge64.true)

pub returns : goal.returns
unfolding pushed
returns c = rw (lt-ltb _ _ c.if-n-ge64.false)
