-- `realseq::queues::Messages::new` meets its contract. Assumes nothing.
use Rattle.std.proofs.Common.{rules}
use Rattle.realseq.specs.Queues.{no_messages}
use Rattle.realseq.proofs.queues.Messages.new.Goals as goal

pub returns : goal.returns
unfolding no_messages
returns c = search rules
