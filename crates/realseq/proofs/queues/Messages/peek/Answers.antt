-- `realseq::queues::Messages::peek` meets its contract. Assumes nothing.
use Rattle.std.proofs.Common.{rules}
use Rattle.realseq.specs.Queues.{peeked}
use Rattle.realseq.proofs.queues.Messages.peek.Goals as goal

pub returns : goal.returns
unfolding peeked
returns c = search rules
