-- A push, by what its checks say.
use Rattle.std.proofs.Common.{◌≡◌, ℕ, ◌+◌, ◌%◌, ◌^◌, min, false, eqb, get_or, sym, refl, ap, ◌∙◌, subst, eq-eqb}
use lib.Ieee.{Float, nan}
use Rattle.event.specs.declared.Event.{Event}
use Rattle.event.specs.declared.Fade.{Fade}
use Rattle.event.specs.declared.Source.{Source}
use Rattle.event.specs.Events.{new_event}
use Rattle.ledger.specs.Calls.{PushKind}
use Rattle.refusals.specs.Refusals.{push_refusal}
use Rattle.sequencer.specs.declared.Sequencer.{Sequencer}
use Rattle.sequencer.specs.declared.Answer.{Answer}
use Rattle.sequencer.specs.declared.Answer.TheVariants.{Number, Refused}
use Rattle.sequencer.specs.Parts.{with_next}
use Rattle.sequencer.specs.Moves.{pushed_event}
use Rattle.sequencer.specs.Pushes.{pushes_to, admitted, pushes}
use Rattle.sequencer.specs.Rises.{rise_of, rise_to, rise_by, pushes_told}
use Rattle.memory.specs.Memory.{Cells, engine_of}
use Rattle.live.specs.declared.pushes.Stated.{Stated}
use Rattle.live.specs.CallContracts.{stated}
use Rattle.memory.specs.Laws.{Sized, with_number, next-is}

module _ (s : Sequencer) (start end lasts from until : Float) (curve : Fade) (fade_in fade_out : Float) (source : Source) (gain : Float) where
  -- t, a and k are the engine, the answer and the rise of the push
  abbrev pub Pushes : Sequencer → Answer → ℕ → Type 0
  Pushes t a k =
      let o = pushes_to s start end lasts from until curve fade_in fade_out source gain in
      (t ≡ o.sequencer) × ((a ≡ o.answer) × (k ≡ rise_to s start end lasts from until curve fade_in fade_out source gain))

  module _ (no : ℕ) (q : no ≡ push_refusal start end lasts fade_in fade_out source gain (min (s.ready_len + (s.active_len + s.past_len)) 256) s.next) where
    refused : eqb no 0 ≡ false → Pushes s (Refused no) 0
    unfolding pushes_to rise_to
    refused z = rw (← q, z) (refl, (refl, refl))

    -- t has the event e, and then its next number
    accepted : no ≡ 0 → (t : Sequencer) (e : Event) (next k : ℕ) → e ≡ new_event from until fade_in fade_out curve source gain s.next → next ≡ (s.next + 1) % 2 ^ 64
        → t ≡ pushed_event s e → k ≡ rise_of s e → Pushes (with_next t next) (Number (record { 0 = s.next })) k
    unfolding pushes_to admitted rise_to
    accepted z t e next k he hn g r =
        rw (eq-eqb _ 0 (sym q ∙ z)) (
          ap (λ (x : Sequencer). with_next x next) g ∙ ap (λ (m : ℕ). with_next (pushed_event s e) m) hn
              ∙ ap (λ (x : Event). with_next (pushed_event s x) ((s.next + 1) % 2 ^ 64)) he,
          (refl, r ∙ ap (rise_of s) he),
        )

-- the same of cells: the counts and the next number lie among the numbers
module _ (c : Cells) (start end lasts from until : Float) (curve : Fade) (fade_in fade_out : Float) (source : Source) (gain : Float) (no : ℕ)
    (q : no ≡ push_refusal start end lasts fade_in fade_out source gain
    (min (get_or c.numbers 1280 0 + (get_or c.numbers 1281 0 + get_or c.numbers 1282 0)) 256) (get_or c.numbers 1286 0)) where
  pub refused_in : eqb no 0 ≡ false → Pushes (engine_of c) start end lasts from until curve fade_in fade_out source gain (engine_of c) (Refused no) 0
  unfolding engine_of
  refused_in z = refused (engine_of c) start end lasts from until curve fade_in fade_out source gain no q z

  pub accepted_in : no ≡ 0 → (d : Cells) → Sized d → (e : Event) (next k : ℕ) → e ≡ new_event from until fade_in fade_out curve source gain (get_or c.numbers 1286 0)
      → next ≡ (get_or c.numbers 1286 0 + 1) % 2 ^ 64 → (engine_of d ≡ pushed_event (engine_of c) e) × (k ≡ rise_of (engine_of c) e)
      → Pushes (engine_of c) start end lasts from until curve fade_in fade_out source gain (engine_of (with_number d 1286 next)) (Number (record { 0 = get_or c.numbers 1286 0 })) k
  unfolding engine_of
  accepted_in z d y e next k he hn g =
      let r : Pushes (engine_of c) start end lasts from until curve fade_in fade_out source gain (with_next (engine_of d) next) (Number (record { 0 = get_or c.numbers 1286 0 })) k =
      accepted (engine_of c) start end lasts from until curve fade_in fade_out source gain no q z (engine_of d) e next k he hn g.0 g.1 in
      (next-is d next y ∙ r.0, r.1)

-- a push with its times stated in one of the ways; P is what else its contract says
module _ (kind : PushKind) (c : Cells) (t : Sequencer) (a : Answer) (k : ℕ) (P : Type 0) (start end : Float) (curve : Fade) (fade_in fade_out : Float) (source : Source) (gain : Float) where
  abbrev pub Entered : Stated → Type 0
  Entered w =
      let o = pushes_to (engine_of c) w.start w.end w.lasts w.from w.until curve fade_in fade_out source gain in
      (t ≡ o.sequencer) × ((a ≡ o.answer) × ((k ≡ rise_to (engine_of c) w.start w.end w.lasts w.from w.until curve fade_in fade_out source gain) × P))

  pub pushed_in : (w : Stated) → w ≡ stated kind start end (get_or c.times 3072 nan) → Entered w
      → (let r = pushes_told kind (engine_of c) start end curve fade_in fade_out source gain in (t ≡ r.sequencer) × ((a ≡ r.answer) × ((k ≡ r.rise) × P)))
  unfolding pushes rise_by engine_of
  pushed_in w q g = subst Entered q g
