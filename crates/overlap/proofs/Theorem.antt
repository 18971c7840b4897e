-- What the calls read of an engine that holds a ledger's lists is what Paper 4 says of the ledger; so it is after any list of calls from any creation. Assumes nothing.
use Rattle.std.specs.Prelude.{ℕ, suc, ◌^◌, ◌≤◌, ◌<◌, Bool, true, false, ◌≡◌, refl, Float, Some, None, Ok, Err, length, drop}
use Rattle.std.proofs.Math.Bool.{cond}
use Rattle.std.proofs.Common.{sym, ◌∙◌, ⊎_elim, arith, length-append, take_all}
use Rattle.std.proofs.Math.Path.{ap}
use mathlib.Core.List.Memᴰ
use mathlib.Core.List.Perm
use mathlib.Core.List.{List, [], ◌∷◌, ◌++◌, Memᴰ, Perm}
use Rattle.std.specs.Float.Ieee.{is_nan}
use Rattle.event.specs.declared.Event.{Event}
use Rattle.event.specs.declared.ReplayMode.{ReplayMode}
use Rattle.ready.proofs.HeapOrder.{perm_eq}
use Rattle.ledger.specs.Calls.{Call}
use Rattle.ledger.specs.Ledger.{Ledger, create}
use Rattle.ledger.specs.Lists.{numbers}
use Rattle.ledger.specs.Sorted.{Sorted}
use Rattle.ledger.specs.Lawful.{Lawful}
use Rattle.ledger.proofs.Lawful.{create_lawful, run_lawful}
use Rattle.ledger.specs.Claim.{SameState, AllLend, ledger_after}
use Rattle.sequencer.specs.declared.Sequencer.{Sequencer}
use Rattle.claim.specs.View.{view_of}
use Rattle.claim.specs.EngineCalls.{engine}
use Rattle.claim.specs.CarriedOut.{after}
use Rattle.claim.proofs.Theorem.{claim}
use Rattle.overlap.specs.declared.Refusal.TheVariants.{Improper}
use Rattle.overlap.specs.Stretch.{FirstWaiting, those, held_events, in_stretch, in_order, clips_of, written, sound, clips_answer, clips_listed, starts_from, first_of, first_answer, first_in}
use Rattle.overlap.specs.Insertion.{those_perm}
use Rattle.overlap.specs.Keys.{sorted_perm, sorted_stays, sorted_length, numbers-length}
use Rattle.overlap.specs.Reading.{held_in, first_read}
use Rattle.overlap.specs.Claim.{Same}

-- ---- the clips

module _ (s : Sequencer) (l : Ledger) (v : SameState (view_of s) l) where
  held_same : Perm (held_in s) (held_events l)
  held_same = Perm.append v.heap (perm_eq (λ i. v.sounding i ++ v.finished i))

  clips_same : (from to : Float) → numbers (clips_of from to (held_in s)) ≡ numbers (clips_of from to (held_events l))
  unfolding clips_of
  clips_same from to = sorted_perm (those_perm (in_stretch from to) held_same)

  count_same : (from to : Float) → length (clips_of from to (held_in s)) ≡ length (clips_of from to (held_events l))
  count_same from to = sym (numbers-length (clips_of from to (held_in s))) ∙ ap length (clips_same from to) ∙ numbers-length (clips_of from to (held_events l))

  answer-same : (from to : Float) (out : List ℕ) → clips_answer from to out (held_in s) ≡ clips_answer from to out (held_events l)
  unfolding clips_answer
  answer-same from to out = ap (λ (n : ℕ). cond (sound from to out) (Ok n) (Err Improper)) (count_same from to)

  listed_same : (from to : Float) (out : List ℕ) → clips_listed from to out (held_in s) ≡ clips_listed from to out (held_events l)
  unfolding clips_listed
  listed_same from to out = ap (λ (ns : List ℕ). cond (sound from to out) (written ns out) out) (clips_same from to)

-- ---- the slice takes them all: at most 256 are held

those-fewer : {A : Type 0} (p : A → Bool) (l : List A) → length (those p l) ≤ length l
unfolding those
those-fewer p [] = omega arith
those-fewer p (x ∷ l) = go (p x) (those-fewer p l)
  where
    go : (b : Bool) → length (those p l) ≤ length l → length (cond b (x ∷ those p l) (those p l)) ≤ suc (length l)
    go true ih = omega arith
    go false ih = omega arith

takes_all : (from to : Float) (l : Ledger) (out : List ℕ) → Lawful l
    → written (numbers (clips_of from to (held_events l))) out ≡ numbers (clips_of from to (held_events l)) ++ drop (length (clips_of from to (held_events l))) out
unfolding clips_of
takes_all from to l out w = rw (take_all 256 ns few, numbers-length (clips_of from to (held_events l)))
  where
    chosen : List Event
    chosen = those (in_stretch from to) (held_events l)

    ns : List ℕ
    ns = numbers (clips_of from to (held_events l))

    few : length ns ≤ 256
    few =
        let a = numbers-length (in_order chosen) in
        let b = sorted_length chosen in
        let c = those-fewer (in_stretch from to) (held_events l) in
        let d = length-append l.waiting (l.sounding ++ l.finished) in
        let e = length-append l.sounding l.finished in
        omega (arith, a, b, c, d, e, w.events)

-- ---- the first waiting

those_in : {A : Type 0} (p : A → Bool) (l : List A) (y : A) → Memᴰ y (those p l) → Memᴰ y l × (p y ≡ true)
unfolding those
those_in p [] y m = absurd (Memᴰ.not-nil m)
those_in {A} p (x ∷ l) y m = go (p x) refl (those_in p l y) m
  where
    go : (b : Bool) → p x ≡ b → (Memᴰ y (those p l) → Memᴰ y l × (p y ≡ true)) → Memᴰ y (cond b (x ∷ those p l) (those p l)) → Memᴰ y (x ∷ l) × (p y ≡ true)
    go true h ih m = ⊎_elim (λ e. (Memᴰ.head e, ap p e ∙ h)) (λ k. (Memᴰ.tail (ih k).0, (ih k).1)) (Memᴰ.cases_cons m)
    go false h ih m = (Memᴰ.tail (ih m).0, (ih m).1)

those_sorted : (p : Event → Bool) (l : List Event) → Sorted l → Sorted (those p l)
unfolding those
those_sorted p [] s = tt
those_sorted p (x ∷ l) s = go (p x) (those_sorted p l s.1)
  where
    go : (b : Bool) → Sorted (those p l) → Sorted (cond b (x ∷ those p l) (those p l))
    go true ih = (λ f m. s.0 f (those_in p l f m).0, ih)
    go false ih = ih

first_number : List ℕ → FirstWaiting
first_number [] = Ok None
first_number (k ∷ l) = Ok (Some (record { 0 = k }))

first_number_lem : (l : List Event) → first_of l ≡ first_number (numbers l)
unfolding first_number
first_number_lem [] = refl
first_number_lem (e ∷ l) = refl

module _ (s : Sequencer) (l : Ledger) (v : SameState (view_of s) l) (w : Lawful l) where
  first-same : (time : Float) → first_read time s ≡ first_in time l
  unfolding first_read first_in first_answer
  first-same t = ap (λ (o : FirstWaiting). cond (is_nan t) (Err Improper) o) same
    where
      heap : List Event
      heap = (view_of s).heap

      same : first_of (in_order (those (starts_from t) heap)) ≡ first_of (those (starts_from t) l.waiting)
      same =
          first_number_lem (in_order (those (starts_from t) heap)) ∙ ap first_number (sorted_perm (those_perm (starts_from t) v.heap))
          ∙ sym (first_number_lem (in_order (those (starts_from t) l.waiting)))
          ∙ ap first_of (sorted_stays (those (starts_from t) l.waiting) (those_sorted (starts_from t) l.waiting w.sorted))

  all_listed : (from to : Float) (out : List ℕ) → sound from to out ≡ true
      → clips_listed from to out (held_in s) ≡ numbers (clips_of from to (held_events l)) ++ drop (length (clips_of from to (held_events l))) out
  unfolding clips_listed
  all_listed from to out h = listed_same s l v from to out ∙ rw h (takes_all from to l out w)

  pub same : Same s l
  same = record { answer = answer-same s l v; listed = listed_same s l v; all_listed = all_listed; first = first-same }

-- after any list of calls from any creation, refused ones included
pub reached : (channels : ℕ) (mode : ReplayMode) (first : ℕ) (cs : List Call) → first < 2 ^ 64 → AllLend engine.lends cs
    → Same (after channels mode first cs) (ledger_after channels mode first cs).ledger
reached channels mode first cs f h =
    same (after channels mode first cs) (ledger_after channels mode first cs).ledger (claim channels mode first cs f h).state
    (run_lawful cs (create channels mode first).ledger (create_lawful channels mode first (omega arith)))

-- ---- "or none exactly when no such event waits"

those-none : {A : Type 0} (p : A → Bool) (l : List A) → ((y : A) → Memᴰ y l → p y ≡ false) → those p l ≡ []
unfolding those
those-none p [] h = refl
those-none p (x ∷ l) h = rw (h x (Memᴰ.head refl), those-none p l (λ y m. h y (Memᴰ.tail m)))

none-those : (p : Event → Bool) (l : List Event) → first_of (those p l) ≡ Ok None → (y : Event) → Memᴰ y l → p y ≡ false
unfolding those
none-those p [] n y m = absurd (Memᴰ.not-nil m)
none-those p (x ∷ l) n y m = go (p x) refl n (λ k. none-those p l k y)
  where
    go : (b : Bool) → p x ≡ b → first_of (cond b (x ∷ those p l) (those p l)) ≡ Ok None → (first_of (those p l) ≡ Ok None → Memᴰ y l → p y ≡ false) → p y ≡ false
    go true h k ih = let z : ◌≡◌ {A = ℕ} 0 1 = cc in absurd (omega arith)
    go false h k ih = ⊎_elim (λ e. ap p e ∙ h) (λ j. ih k j) (Memᴰ.cases_cons m)

module _ (t : Float) (l : Ledger) (known : is_nan t ≡ false) where
  pub first-none : ((e : Event) → Memᴰ e l.waiting → starts_from t e ≡ false) → first_in t l ≡ Ok None
  unfolding first_in first_answer
  first-none h = rw (known, those-none (starts_from t) l.waiting h)

  pub none_first : first_in t l ≡ Ok None → (e : Event) → Memᴰ e l.waiting → starts_from t e ≡ false
  unfolding first_in first_answer
  none_first h = none-those (starts_from t) l.waiting (rw known at h)
