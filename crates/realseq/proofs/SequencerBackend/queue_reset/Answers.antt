-- `realseq::SequencerBackend::queue_reset` meets its contract. Assumes nothing.
use Rattle.std.proofs.Common.{◌≡◌, ◌<◌, ◌≤◌, Bool, cond, sym, ap, ◌∙◌, le-leb}
use borrow.Author.Tests.{lt-leb}
use Rattle.realseq.specs.declared.SequencerBackend.{SequencerBackend}
use Rattle.realseq.specs.declared.Answer.TheVariants.{Queued}
use Rattle.realseq.specs.declared.queues.Message.TheVariants.{Reset}
use Rattle.realseq.specs.Fronts.{queued_with, resets}
use Rattle.realseq.specs.Answers.{refuses}
use Rattle.realseq.proofs.SequencerBackend.queue_reset.Goals as goal

module _ (d : SequencerBackend) where
  full : 64 ≤ d.messages.count → refuses d 13 ≡ resets d
  unfolding resets
  full h = sym (ap (λ (b : Bool). cond b (refuses d 13) (record { backend = queued_with Reset d; answer = Queued })) (le-leb 64 d.messages.count h))

  fine : (e : SequencerBackend) → d.messages.count < 64 → e ≡ queued_with Reset d → record { backend = e; answer = Queued } ≡ resets d
  unfolding resets
  fine e h g =
      ap (λ (x : SequencerBackend). record { backend = x; answer = Queued }) g
      ∙ sym (ap (λ (b : Bool). cond b (refuses d 13) (record { backend = queued_with Reset d; answer = Queued })) (lt-leb 64 d.messages.count h))

pub returns-then-self-ge64 : goal.returns-then-self-ge64
returns-then-self-ge64 c = ap (refuses _) c.number.ensures ∙ full _ c.if-self-ge64.true

pub returns : goal.returns
returns c = fine _ _ c.if-self-ge64.false c.send.ensures
