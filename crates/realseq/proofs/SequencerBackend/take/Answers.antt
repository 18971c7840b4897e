-- `realseq::SequencerBackend::take` meets its contract. Assumes nothing.
use Rattle.std.proofs.Common.{◌≡◌, ap}
use Rattle.realseq.specs.declared.SequencerBackend.{SequencerBackend}
use Rattle.realseq.specs.declared.queues.Messages.{Messages}
use Rattle.realseq.specs.Queues.{popped}
use Rattle.realseq.specs.Handling.{taken}
use Rattle.realseq.proofs.SequencerBackend.take.Goals as goal

off : (d : SequencerBackend) (q : Messages) → q ≡ popped d.messages → record { sequencer = d.sequencer; messages = q; returned = d.returned } ≡ taken d
unfolding taken
off d q h = ap (λ (x : Messages). record { sequencer = d.sequencer; messages = x; returned = d.returned }) h

pub returns : goal.returns
returns c = off _ _ c.pop-self.ensures
