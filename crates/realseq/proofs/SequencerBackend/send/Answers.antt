-- `realseq::SequencerBackend::send` meets its contract. Assumes nothing.
use Rattle.std.proofs.Common.{◌≡◌, ap, ◌∙◌}
use Rattle.realseq.specs.declared.SequencerBackend.{SequencerBackend}
use Rattle.realseq.specs.declared.queues.Message.{Message}
use Rattle.realseq.specs.declared.queues.Messages.{Messages}
use Rattle.realseq.specs.declared.queues.Returned.{Returned}
use Rattle.realseq.specs.Queues.{pushed, emptied}
use Rattle.realseq.specs.Fronts.{queued_with}
use Rattle.realseq.proofs.SequencerBackend.send.Goals as goal

sends : (d : SequencerBackend) (m : Message) (q : Messages) (r : Returned) → q ≡ pushed d.messages m → r ≡ emptied d.returned → record { sequencer = d.sequencer; messages = q; returned = r } ≡ queued_with m d
unfolding queued_with
sends d m q r hq hr =
    ap (λ (x : Messages). record { sequencer = d.sequencer; messages = x; returned = r }) hq
    ∙ ap (λ (x : Returned). record { sequencer = d.sequencer; messages = pushed d.messages m; returned = x }) hr

pub returns : goal.returns
returns c = sends _ _ _ _ c.push-self.ensures c.empty-self.ensures
