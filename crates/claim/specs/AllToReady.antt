-- Everything goes to W, as at a change of the rate: the engine's and the ledger's. Assumes nothing.
use Rattle.std.specs.Prelude.{Bool, true, false, ◌≡◌, refl, Float}
use Rattle.std.proofs.Math.Path.{sym, ap, subst}
use Rattle.std.proofs.Common.{◌∙◌, lt-ltb, le-ltb}
use mathlib.Core.List.{List, [], ◌∷◌, ◌++◌, append_assoc}
use Prim.Native.Nat.{ℕ, suc, ◌+◌, ◌-◌, ◌≤◌, ◌<◌, min}
use native.Mathlib.Omega.{arith}
use Rattle.std.specs.Float.Ieee.{eq}
use Rattle.std.proofs.Math.ListN.{length, length-append, get_or, get_or-append}
use Rattle.std.proofs.Math.Seq.{get_or-append-add}
use Rattle.std.proofs.Math.Decide.{dec_lt}
use Rattle.event.specs.declared.Event.{Event}
use Rattle.event.specs.declared.StoredEdit.{StoredEdit}
use Rattle.event.specs.Blank.{blank}
use Rattle.ledger.specs.Lists.{insert, insert_all}
use Rattle.ledger.specs.Ledger.{Ledger}
use Rattle.ledger.specs.Steps.{everything, set_rate}
use Rattle.ledger.proofs.Sums.{event_sum_one, event_sum_insert_all}
use Rattle.ledger.specs.Lawful.{Lawful}
use Rattle.ready.proofs.Waits.{waits-length}
use Rattle.lists.specs.Holds.{holds_at, holds-length, holds-none}
use Rattle.sequencer.specs.declared.Sequencer.{Sequencer}
use Rattle.sequencer.specs.Moves.{pushed_ready, held_at, to_ready, all_to_ready}
use Rattle.sequencer.specs.Resets.{re_rated}
use Rattle.claim.specs.Related.{Lists, Plain, Related, lists_ready}

insert_all-length : (q w : List Event) → length (insert_all q w) ≡ length q + length w
insert_all-length q w = omega (arith, event_sum_insert_all (λ x n. 1) q w, event_sum_one q, event_sum_one w, event_sum_one (insert_all q w))

insert-length : (e : Event) (w : List Event) → length (insert e w) ≡ suc (length w)
unfolding insert_all
insert-length e w = omega (arith, insert_all-length (e ∷ []) w)

insert_all-append : (f a w : List Event) → insert_all (f ++ a) w ≡ insert_all a (insert_all f w)
unfolding insert_all
insert_all-append [] a w = refl
insert_all-append (e ∷ f) a w = insert_all-append f a (insert e w)

-- ---- F and then S go to W, one event after another

module _ (l : Ledger) (a f : List Event) (x : List StoredEdit) where
  abbrev Both : Sequencer → (waiting : List Event) → Type 0
  Both t w = Lists t w a f x × Plain t l

  -- what the engine reads at place i
  held-is : (s : Sequencer) (w : List Event) (i : ℕ) → Lists s w a f x → i < length f + length a → held_at (length f) s i ≡ get_or (f ++ a) i blank
  held-is s w i r h = go (dec_lt i (length f))
    where
      go : Dec (i < length f) → held_at (length f) s i ≡ get_or (f ++ a) i blank
      go (yes k) = rw (lt-ltb i (length f) k) (holds_at blank i (omega (arith, holds-length r.3)) r.3 ∙ sym (get_or-append f a blank i k))
      go (no k) =
          let j : i ≡ length f + (i - length f) = omega arith in
          rw (le-ltb i (length f) (omega arith))
          (holds_at blank (i - length f) (omega (arith, holds-length r.1)) r.1 ∙ sym (get_or-append-add f a (i - length f) blank) ∙ ap (λ (m : ℕ). get_or (f ++ a) m blank) (sym j))

  -- q is left, behind p
  rest_ready : (q : List Event) (s : Sequencer) (p w : List Event) → p ++ q ≡ f ++ a → length w + length q ≤ 256 → Both s w
      → Both (to_ready (length q) (length f) (length p) s) (insert_all q w)
  unfolding to_ready insert_all pushed_ready
  rest_ready [] s p w h room r = r
  rest_ready (e ∷ q) s p w h room r =
      let all : length p + suc (length q) ≡ length f + length a = sym (length-append p (e ∷ q)) ∙ ap length h ∙ length-append f a in
      let o : length p ≡ length p + 0 = omega arith in
      let here : held_at (length f) s (length p) ≡ e
      = held-is s w (length p) r.0 (omega arith) ∙ ap (λ (k : List Event). get_or k (length p) blank) (sym h)
      ∙ ap (λ (m : ℕ). get_or (p ++ (e ∷ q)) m blank) o ∙ get_or-append-add p (e ∷ q) 0 blank in
      let z =
      rest_ready q (pushed_ready s e) (p ++ (e ∷ [])) (insert e w) (append_assoc p (e ∷ []) q ∙ h) (omega (arith, insert-length e w))
      (lists_ready s e w a f x (omega (arith, waits-length r.0.0)) r.0, r.1) in
      let j : length (p ++ (e ∷ [])) ≡ suc (length p) = omega (arith, length-append p (e ∷ [])) in
      subst (λ (t : Sequencer). Both t (insert_all q (insert e w)))
      (ap (λ (m : ℕ). to_ready (length q) (length f) m (pushed_ready s e)) j ∙ ap (λ (y : Event). to_ready (length q) (length f) (suc (length p)) (pushed_ready s y)) (sym here)) z

-- the heap holds everything, and both lists are empty
pub all_ready : (s : Sequencer) (l : Ledger) → Lawful l → Related s l → Lists (all_to_ready s) (everything l) [] [] l.edits × Plain (all_to_ready s) l
unfolding all_to_ready
all_ready s l w r =
    let f = l.finished in
    let a = l.sounding in
    let p : length f ≡ min s.past_len 256 = omega (arith, holds-length r.lists.3, r.lists.3.fits) in
    let n : length (f ++ a) ≡ min s.past_len 256 + min s.active_len 256
    = omega (arith, holds-length r.lists.3, r.lists.3.fits, holds-length r.lists.1, r.lists.1.fits, length-append f a) in
    let t = to_ready (min s.past_len 256 + min s.active_len 256) (min s.past_len 256) 0 s in
    let b : Both l a f l.edits t (everything l)
    = subst (λ (m : ℕ). Both l a f l.edits (to_ready m (min s.past_len 256) 0 s) (everything l)) n
    (subst (λ (m : ℕ). Both l a f l.edits (to_ready (length (f ++ a)) m 0 s) (everything l)) p
    (subst (Both l a f l.edits (to_ready (length (f ++ a)) (length f) 0 s)) (insert_all-append f a l.waiting)
    (rest_ready l a f l.edits (f ++ a) s [] l.waiting refl (omega (arith, w.events, length-append f a)) (r.lists, r.plain)))) in
    ((b.0.0, holds-none t.active b.0.1.sized, holds-none t.active_map b.0.2.sized, holds-none t.past b.0.3.sized, b.0.4), b.1)

-- ---- a change of the rate

pub related_rate : (s : Sequencer) (l : Ledger) (r : Float) → Lawful l → Related s l → Related (re_rated s r) (set_rate l r (eq l.rate r))
unfolding re_rated set_rate
related_rate s l r w g = go (eq l.rate r) refl
  where
    same : (b : Bool) → eq l.rate r ≡ b → eq s.sample_rate r ≡ b
    same b h = ap (λ (x : Float). eq x r) g.plain.2 ∙ h

    go : (b : Bool) → eq l.rate r ≡ b → Related (re_rated s r) (set_rate l r b)
    go true h = rw (same true h) g
    go false h =
        let z = all_ready s l w g in
        rw (same false h) (record { lists = z.0; plain = (z.1.0, refl, refl, refl, z.1.4, z.1.5, z.1.6, z.1.7) })
