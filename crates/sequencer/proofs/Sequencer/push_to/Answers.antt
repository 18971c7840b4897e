-- `sequencer::Sequencer::push_to` meets its contract.
use Rattle.std.proofs.Common.{◌≡◌, ℕ, ◌+◌, ◌%◌, ◌^◌, min, false, eqb, sym, refl, ap, ◌∙◌, arith, eq-eqb}
use lib.Ieee.{Float}
use Rattle.event.specs.declared.Event.{Event}
use Rattle.event.specs.declared.Fade.{Fade}
use Rattle.event.specs.declared.Source.{Source}
use Rattle.event.specs.Events.{new_event}
use Rattle.refusals.specs.Numbers.{refused_is, taken_is}
use Rattle.refusals.specs.Refusals.{push_refusal}
use Rattle.sequencer.specs.declared.Sequencer.{Sequencer}
use Rattle.sequencer.specs.declared.Pushed.{Pushed}
use Rattle.sequencer.specs.declared.Answer.TheVariants.{Number}
use Rattle.sequencer.specs.Outcomes.{refuses, not_zero}
use Rattle.sequencer.specs.Parts.{with_next}
use Rattle.sequencer.specs.Moves.{pushed_event}
use Rattle.sequencer.specs.Pushes.{pushes_to, admitted}
use Rattle.sequencer.specs.Rises.{rise_of, with_rise, rise_to}
use Rattle.sequencer.proofs.Sequencer.push_to.Goals as goal

module _ (s : Sequencer) (start end lasts from until : Float) (curve : Fade) (fade_in fade_out : Float) (source : Source) (gain : Float) (n no : ℕ) where
  abbrev Held : Type 0
  Held = n ≡ min (s.ready_len + (s.active_len + s.past_len)) 256

  abbrev Told : Type 0
  Told = no ≡ push_refusal start end lasts fade_in fade_out source gain n s.next

  abbrev told : Pushed
  told = with_rise (pushes_to s start end lasts from until curve fade_in fade_out source gain) (rise_to s start end lasts from until curve fade_in fade_out source gain)

  -- what is returned, by the engine that the event has entered, the next number and its rise
  abbrev given : (t : Sequencer) (next rise : ℕ) → Pushed
  given t next rise = record { sequencer = with_next t next; answer = Number (record { 0 = s.next }); rise = rise }

  refusal_is : Held → Told → no ≡ push_refusal start end lasts fade_in fade_out source gain (min (s.ready_len + (s.active_len + s.past_len)) 256) s.next
  refusal_is h q = q ∙ ap (λ (m : ℕ). push_refusal start end lasts fade_in fade_out source gain m s.next) h

  refused : Held → Told → eqb no 0 ≡ false → with_rise (refuses s no) 0 ≡ told
  unfolding pushes_to rise_to
  refused h q z = rw (← refusal_is h q, z)

  accepted : Held → Told → no ≡ 0 → (e : Event) (t : Sequencer) (next rise : ℕ) → e ≡ new_event from until fade_in fade_out curve source gain s.next → next ≡ (s.next + 1) % 2 ^ 64
      → t ≡ pushed_event s e → rise ≡ rise_of s e → given t next rise ≡ told
  unfolding pushes_to admitted rise_to
  accepted h q z e t next rise he hn ht hr =
      let new = new_event from until fade_in fade_out curve source gain s.next in
      rw (eq-eqb _ 0 (sym (refusal_is h q) ∙ z))
      (ap (λ (x : Sequencer). given x next rise) (ht ∙ ap (pushed_event s) he) ∙ ap (λ (m : ℕ). given (pushed_event s new) m rise) hn
      ∙ ap (given (pushed_event s new) ((s.next + 1) % 2 ^ 64)) (hr ∙ ap (rise_of s) he))

pub returns-in-Some : goal.returns-in-Some
returns-in-Some c =
    let k = refused_is _ _ _ c.push_refusal-no.ensures c.in-Some.is in
    rw c.number.ensures (refused _ _ _ _ _ _ _ _ _ _ _ _ _ c.held-n.ensures k.0 (not_zero _ (omega (arith, k.0, k.1))))

pub returns : goal.returns
returns c =
    accepted _ _ _ _ _ _ _ _ _ _ _ _ _ c.held-n.ensures refl (taken_is _ _ c.push_refusal-no.ensures c.in_default.is)
    _ _ _ _ c.new-event.ensures refl c.push_event-s.ensures c.rise_of-rise.ensures
