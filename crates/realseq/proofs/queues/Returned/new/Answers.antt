-- `realseq::queues::Returned::new` meets its contract. Assumes nothing.
use Rattle.std.proofs.Common.{rules}
use Rattle.realseq.specs.Queues.{no_returned}
use Rattle.realseq.proofs.queues.Returned.new.Goals as goal

pub returns : goal.returns
unfolding no_returned
returns c = search rules
