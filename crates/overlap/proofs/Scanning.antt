-- The loop of `first_from`: the first so far is the head of those seen so far, in order. Assumes nothing.
use mathlib.Core.Bool.{Bool, true, false, true≢false}
use mathlib.Core.Path.{◌≡◌, refl, sym, ap, ◌∙◌, subst}
use mathlib.Core.List.{List, [], ◌∷◌, ◌++◌}
use Prim.Native.Nat.{ℕ, ◌+◌, min, ◌<◌}
use native.Mathlib.Omega.{arith}
use native.Mathlib.Numerals.{add-one}
use lib.Ieee.{Float, is_nan}
use lib.ListN.{length, get_or, take, length-take}
use lib.Seq.{take_all, get_or-take}
use Rattle.event.specs.declared.Event.{Event}
use Rattle.event.specs.Events.{earlier}
use Rattle.event.specs.Blank.{blank}
use Rattle.ledger.specs.Lists.{insert, insert_all}
use Rattle.sequencer.specs.declared.Sequencer.{Sequencer}
use Rattle.std.proofs.Common.{Option, Some, None, Ok, Err, option_map}
use Rattle.overlap.specs.declared.Refusal.TheVariants.{Improper}
use Rattle.overlap.specs.Stretch.{those, in_order, starts_from, first_of, first_answer}
use Rattle.overlap.specs.Reading.{first_read, comes_first}
use Rattle.memory.specs.Memory.{Cells, event_at, slot_of, engine_of}
use Rattle.memory.specs.Laws.{waits-read}
use Rattle.overlap.proofs.Gathering.{passing, failing, sized_engine}

insert_all-last : (a w : List Event) (e : Event) → insert_all (a ++ (e ∷ [])) w ≡ insert e (insert_all a w)
unfolding insert_all
insert_all-last [] w e = refl
insert_all-last (x ∷ a) w e = insert_all-last a (insert x w) e

-- the first, if there is one
abbrev pub Best : Option Event → List Event → Type 0
Best (Some f) l = (t : List Event) × (l ≡ f ∷ t)
Best None l = l ≡ []

-- one more event
best_sooner : (e f : Event) (l : List Event) → earlier e f ≡ true → Best (Some f) l → Best (Some e) (insert e l)
unfolding insert
best_sooner e f l h b = (f ∷ b.0, ap (insert e) b.1 ∙ rw h refl)

best_later : (e f : Event) (l : List Event) → earlier e f ≡ false → Best (Some f) l → Best (Some f) (insert e l)
unfolding insert
best_later e f l h b = (insert e b.0, ap (insert e) b.1 ∙ rw h refl)

best_only : (e : Event) (l : List Event) → Best None l → Best (Some e) (insert e l)
unfolding insert
best_only e l b = ([], ap (insert e) b)

module _ (p : Event → Bool) (l : List Event) where
  -- those of the first i that pass, in order
  abbrev pub seen : ℕ → List Event
  seen i = in_order (those p (take i l))

  pub none_seen : seen 0 ≡ []
  unfolding insert_all those
  none_seen = refl

  module _ (i : ℕ) (e : Event) (h : i < length l) (q : e ≡ get_or l i blank) where
    seen_in : p e ≡ true → seen (i + 1) ≡ insert e (seen i)
    seen_in t = ap (λ (a : List Event). insert_all a []) (rw (add-one i) (passing p l i e h q t)) ∙ insert_all-last (those p (take i l)) [] e

    pub out : (o : Option Event) → p e ≡ false → Best o (seen i) → Best o (seen (i + 1))
    out o t s = subst (Best o) (sym (ap (λ (a : List Event). insert_all a []) (rw (add-one i) (failing p l i e h q t)))) s

    pub first_in : (o : Option Event) → p e ≡ true → comes_first e o ≡ true → Best o (seen i) → Best (Some e) (seen (i + 1))
    first_in (Some f) t s g = subst (Best (Some e)) (sym (seen_in t)) (best_sooner e f (seen i) s g)
    first_in None t s g = subst (Best (Some e)) (sym (seen_in t)) (best_only e (seen i) g)

    pub later_in : (o : Option Event) → p e ≡ true → comes_first e o ≡ false → Best o (seen i) → Best o (seen (i + 1))
    later_in (Some f) t s g = subst (Best (Some f)) (sym (seen_in t)) (best_later e f (seen i) s g)
    later_in None t s g = absurd (true≢false s)

-- ---- the answer

module _ (t : Float) (s : Sequencer) where
  pub nan_refused : is_nan t ≡ true → Err Improper ≡ first_read t s
  unfolding first_read first_answer
  nan_refused h = rw h refl

  abbrev heap : List Event
  heap = take s.ready_len s.ready

  module _ (i : ℕ) (h : is_nan t ≡ false) (z : length s.ready ≡ 256) (k : i ≡ min s.ready_len 256) where
    whole : take i heap ≡ heap
    whole = take_all i heap (omega (arith, length-take s.ready_len s.ready))

    read : (l : List Event) → seen (starts_from t) heap i ≡ l → first_of l ≡ first_read t s
    unfolding first_read first_answer
    read l q = rw h (sym (ap first_of (ap (λ (a : List Event). in_order (those (starts_from t) a)) (sym whole) ∙ q)))

    pub answered : (o : Option Event) → Best o (seen (starts_from t) heap i) → Ok (option_map (λ (f : Event). f.id) o) ≡ first_read t s
    answered (Some f) g = read (f ∷ g.0) g.1
    answered None g = read [] g

-- the event that the code takes
pub heap_at : (c : Cells) (n i : ℕ) (e : Event) → n ≡ min (engine_of c).ready_len 256 → i < n → e ≡ event_at c (slot_of (0 + i))
    → (i < length (take (engine_of c).ready_len (engine_of c).ready)) × (e ≡ get_or (take (engine_of c).ready_len (engine_of c).ready) i blank)
heap_at c n i e k p q =
    let s = engine_of c in
    let z : 0 + i ≡ i = omega arith in (
      omega (arith, length-take s.ready_len s.ready, (sized_engine c).ready),
      q ∙ ap (λ (j : ℕ). event_at c (slot_of j)) z ∙ waits-read c i blank (omega arith) ∙ sym (get_or-take s.ready_len s.ready i blank (omega arith)),
    )
