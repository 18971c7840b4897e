-- `realseq::SequencerBackend::send_edit` meets its contract. Assumes nothing.
use Rattle.std.proofs.Common.{arith, refl, ◌≡◌, ℕ, Bool, true, false, sym, ap, ◌∙◌}
use lib.Ieee.{Float}
use Rattle.event.specs.declared.EventId.{EventId}
use Rattle.event.specs.declared.Edit.{Edit}
use Rattle.realseq.specs.Numbers.{refused_is, taken_is}
use Rattle.realseq.specs.declared.SequencerBackend.{SequencerBackend}
use Rattle.realseq.specs.declared.Answer.TheVariants.{Queued}
use Rattle.realseq.specs.declared.queues.Message.{Message}
use Rattle.realseq.specs.declared.queues.Message.TheVariants.{Edit as Amend, EditRelative}
use Rattle.realseq.specs.Fronts.{queued_with, edit_refused, edit_message, sends_edit}
use Rattle.realseq.specs.Answers.{refuses}
use Rattle.realseq.proofs.Choices.{refused, done as gives}
use Rattle.realseq.proofs.SequencerBackend.send_edit.Goals as goal

module _ (d : SequencerBackend) (r : Bool) (i : EventId) (end fade_out : Float) (k : ℕ) (h : k ≡ edit_refused d end fade_out) where
  abbrev change : Edit
  change = record { end_time = end; fade_out = fade_out }

  refuses-it : (k ≡ 0 → ⊥) → refuses d k ≡ sends_edit d r i end fade_out
  unfolding sends_edit
  refuses-it s = refused k (edit_refused d end fade_out) h d _ s

  module _ (z : k ≡ 0) (e : SequencerBackend) where
    queues : (m : Message) → m ≡ edit_message r i change → e ≡ queued_with m d → record { backend = e; answer = Queued } ≡ sends_edit d r i end fade_out
    unfolding sends_edit
    queues m is g =
        gives k (edit_refused d end fade_out) h d _ _ z (ap (λ (x : SequencerBackend). record { backend = x; answer = Queued }) (g ∙ ap (λ (x : Message). queued_with x d) is))

    queues-relative : r ≡ true → e ≡ queued_with (EditRelative i change) d → record { backend = e; answer = Queued } ≡ sends_edit d r i end fade_out
    queues-relative b g = queues (EditRelative i change) (sym (ap (λ (x : Bool). edit_message x i change) b)) g

    queues-absolute : r ≡ false → e ≡ queued_with (Amend i change) d → record { backend = e; answer = Queued } ≡ sends_edit d r i end fade_out
    queues-absolute b g = queues (Amend i change) (sym (ap (λ (x : Bool). edit_message x i change) b)) g

pub returns-in-Some : goal.returns-in-Some
returns-in-Some c =
    let r = refused_is _ _ _ c.edit_refusal.ensures c.in-Some.is in
    let e = c.number.ensures ∙ r.0 in
    let some : c.number.result ≡ 0 → ⊥ = λ z. omega (arith, r.1, e, z) in
    refuses-it _ _ _ _ _ _ e some

pub returns-then-relative : goal.returns-then-relative
returns-then-relative c = queues-relative _ _ _ _ _ _ refl (taken_is _ _ c.edit_refusal.ensures c.in_default.is) _ c.if-relative.true c.send.ensures

pub returns : goal.returns
returns c = queues-absolute _ _ _ _ _ _ refl (taken_is _ _ c.edit_refusal.ensures c.in_default.is) _ c.if-relative.false c.send-2.ensures
