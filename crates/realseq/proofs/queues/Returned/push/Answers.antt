-- `realseq::queues::Returned::push` meets its contract. Assumes nothing.
use Rattle.std.proofs.Common.{le-ltb, lt-ltb}
use Rattle.realseq.specs.Queues.{sent}
use Rattle.realseq.proofs.queues.Returned.push.Goals as goal

pub returns-then-n-ge64 : goal.returns-then-n-ge64
unfolding sent
returns-then-n-ge64 c = rw (le-ltb _ _ c.if-n-ge64.true)

pub returns : goal.returns
unfolding sent
returns c = rw (lt-ltb _ _ c.if-n-ge64.false)
