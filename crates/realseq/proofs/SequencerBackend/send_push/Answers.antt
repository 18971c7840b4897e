-- `realseq::SequencerBackend::send_push` meets its contract. Assumes nothing.
use Rattle.std.proofs.Common.{arith, refl, ◌≡◌, ℕ, Bool, true, false, sym, ap, ◌∙◌}
use lib.Ieee.{Float}
use Rattle.event.specs.declared.Event.{Event}
use Rattle.event.specs.declared.Fade.{Fade}
use Rattle.event.specs.declared.Source.{Source}
use Rattle.event.specs.Events.{new_event}
use Rattle.floats.specs.Arithmetic.{◌-ᵈ◌}
use Rattle.realseq.specs.Numbers.{refused_is, taken_is}
use Rattle.realseq.specs.declared.SequencerBackend.{SequencerBackend}
use Rattle.realseq.specs.declared.Outcome.{Outcome}
use Rattle.realseq.specs.declared.Answer.TheVariants.{Number}
use Rattle.realseq.specs.declared.queues.Message.{Message}
use Rattle.realseq.specs.declared.queues.Message.TheVariants.{Push, PushRelative}
use Rattle.realseq.specs.Fronts.{queued_with, numbered, push_refused, push_message, sends_push}
use Rattle.realseq.specs.Answers.{refuses}
use Rattle.realseq.proofs.Choices.{refused, done as gives}
use Rattle.realseq.proofs.SequencerBackend.send_push.Goals as goal

module _ (d : SequencerBackend) (r : Bool) (start end until : Float) (curve : Fade) (fade_in fade_out : Float) (source : Source) (gain : Float) (k : ℕ) (h : k ≡ push_refused d start end (until -ᵈ start) fade_in fade_out source gain) where
  abbrev event : Event
  event = new_event start until fade_in fade_out curve source gain d.sequencer.next

  abbrev answers : SequencerBackend → Outcome
  answers x = record { backend = x; answer = Number (record { 0 = d.sequencer.next }) }

  refuses-it : (k ≡ 0 → ⊥) → refuses d k ≡ sends_push d r start end until curve fade_in fade_out source gain
  unfolding sends_push
  refuses-it s = refused k (push_refused d start end (until -ᵈ start) fade_in fade_out source gain) h d _ s

  module _ (z : k ≡ 0) (v : Event) (hv : v ≡ event) (e g : SequencerBackend) (he : e ≡ numbered d) where
    queues : (m : Message) → m ≡ push_message r v → g ≡ queued_with m e → answers g ≡ sends_push d r start end until curve fade_in fade_out source gain
    unfolding sends_push
    queues m is q =
        gives k (push_refused d start end (until -ᵈ start) fade_in fade_out source gain) h d _ _ z
        (ap answers
        (q ∙ ap (λ (x : Message). queued_with x e) (is ∙ ap (push_message r) hv)
        ∙ ap (λ (x : SequencerBackend). queued_with (push_message r event) x) he))

    queues-relative : r ≡ true → g ≡ queued_with (PushRelative v) e → answers g ≡ sends_push d r start end until curve fade_in fade_out source gain
    queues-relative b q = queues (PushRelative v) (sym (ap (λ (x : Bool). push_message x v) b)) q

    queues-absolute : r ≡ false → g ≡ queued_with (Push v) e → answers g ≡ sends_push d r start end until curve fade_in fade_out source gain
    queues-absolute b q = queues (Push v) (sym (ap (λ (x : Bool). push_message x v) b)) q

pub returns-in-Some : goal.returns-in-Some
returns-in-Some c =
    let r = refused_is _ _ _ c.push_refusal.ensures c.in-Some.is in
    let e = c.number.ensures ∙ r.0 in
    let some : c.number.result ≡ 0 → ⊥ = λ z. omega (arith, r.1, e, z) in
    refuses-it _ _ _ _ _ _ _ _ _ _ _ e some

pub returns-then-relative : goal.returns-then-relative
returns-then-relative c =
    let none = taken_is _ _ c.push_refusal.ensures c.in_default.is in
    queues-relative _ _ _ _ _ _ _ _ _ _ _ refl none _ c.new-event.ensures _ _ c.take_number-d.ensures c.if-relative.true c.send-d.ensures

pub returns : goal.returns
returns c =
    let none = taken_is _ _ c.push_refusal.ensures c.in_default.is in
    queues-absolute _ _ _ _ _ _ _ _ _ _ _ refl none _ c.new-event.ensures _ _ c.take_number-d.ensures c.if-relative.false c.send-d-2.ensures
