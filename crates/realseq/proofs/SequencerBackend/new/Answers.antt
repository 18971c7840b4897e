-- `realseq::SequencerBackend::new` meets its contract. Assumes nothing.
use Rattle.std.proofs.Common.{◌≡◌}
use Rattle.sequencer.specs.declared.Sequencer.{Sequencer}
use Rattle.realseq.specs.declared.queues.Messages.{Messages}
use Rattle.realseq.specs.declared.queues.Returned.{Returned}
use Rattle.realseq.specs.Queues.{opened, no_messages, no_returned}
use Rattle.realseq.proofs.SequencerBackend.new.Goals as goal

both-empty : (s : Sequencer) (m : Messages) (r : Returned) → m ≡ no_messages → r ≡ no_returned → record { sequencer = s; messages = m; returned = r } ≡ opened s
unfolding opened
both-empty s m r p q = rw (p, q)

pub returns : goal.returns
returns c = both-empty _ _ _ c.new.ensures c.new-2.ensures
