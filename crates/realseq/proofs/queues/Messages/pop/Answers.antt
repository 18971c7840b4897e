-- `realseq::queues::Messages::pop` meets its contract. Assumes nothing.
use Rattle.std.proofs.Common.{eq-eqb, ne_eqb}
use Rattle.realseq.specs.Queues.{popped}
use Rattle.realseq.proofs.queues.Messages.pop.Goals as goal

pub returns-then-n-eq0 : goal.returns-then-n-eq0
unfolding popped
returns-then-n-eq0 c = rw (eq-eqb _ _ c.if-n-eq0.true)

pub returns : goal.returns
unfolding popped
returns c = rw (ne_eqb _ _ c.if-n-eq0.false)
