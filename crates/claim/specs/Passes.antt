-- The engine's pass over an array, on the list that the array holds: each element is replaced by `next` of it, and all are added to a sum, in the order of the call. Assumes nothing.
use Rattle.std.specs.Prelude.{◌≡◌, get_or, set, take}
use Rattle.std.proofs.Math.Path.{refl, ap}
use Rattle.std.proofs.Common.{sym, ap₂, ◌∙◌, arith, length-drop, take-append-drop, take_at}
use mathlib.Core.List.{List, [], ◌∷◌, ◌++◌, map, foldl, append_assoc, reverse, reverse_aux, reverse_aux-eq, reverse-reverse}
use Prim.Native.Nat.{ℕ, zero, suc, ◌≤◌}
use Rattle.std.proofs.Math.ListN.{length, drop, length-append}
use Rattle.std.proofs.lemmas.List.{length-map, length-reverse, get_or_at}
use Rattle.std.proofs.Math.Seq.{set_at}
use Rattle.event.specs.declared.Event.{Event}
use Rattle.event.specs.declared.MixOrder.{MixOrder}
use Rattle.event.specs.declared.MixOrder.TheVariants.{Forward, Backward}
use Rattle.ledger.specs.Steps.{in_order}
use Rattle.lists.specs.Holds.{Holds, holds-length}
use Rattle.sequencer.specs.Rendering.{Passed, passes}

module _ {A S : Type 0} (next : A → A) (plus : S → A → S) (d : A) where
  -- f elements of ys, which stand behind p
  pass_from : (f : ℕ) (p ys : List A) (s : S) → f ≤ length ys
      → ((passes next plus d Forward f (p ++ ys) (length p) s).items ≡ p ++ (map next (take f ys) ++ drop f ys)) × ((passes next plus d Forward f (p ++ ys) (length p) s).sum ≡ foldl plus s (take f ys))
  unfolding passes
  pass_from zero p ys s h = (refl, refl)
  pass_from (suc f) p [] s h = absurd (omega arith)
  pass_from (suc f) p (y ∷ ys) s h =
      let q = p ++ (next y ∷ []) in
      let n : suc (length p) ≡ length q = omega (arith, length-append p (next y ∷ [])) in
      let one : passes next plus d Forward f (set (p ++ (y ∷ ys)) (length p) (next (get_or (p ++ (y ∷ ys)) (length p) d))) (suc (length p)) (plus s (get_or (p ++ (y ∷ ys)) (length p) d))
      ≡ passes next plus d Forward f (q ++ ys) (length q) (plus s y)
      = rw (get_or_at p y ys d (length p) refl, set_at p y ys (next y) (length p) refl, n, append_assoc p (next y ∷ []) ys) in
      let r = pass_from f q ys (plus s y) (omega arith) in (
        ap (λ (x : Passed A S). x.items) one ∙ r.0 ∙ append_assoc p (next y ∷ []) (map next (take f ys) ++ drop f ys),
        ap (λ (x : Passed A S). x.sum) one ∙ r.1,
      )

  -- From the end: the elements that are left are those of r, last first, and behind them stands ys.

  back-get : (r : List A) (x : A) (ys : List A) → get_or (reverse_aux r (x ∷ ys)) (length r) d ≡ x
  back-get r x ys = ap (λ (l : List A). get_or l (length r) d) (reverse_aux-eq r (x ∷ ys)) ∙ get_or_at (reverse r) x ys d (length r) (length-reverse r)

  back-set : (r : List A) (x : A) (ys : List A) (y : A) → set (reverse_aux r (x ∷ ys)) (length r) y ≡ reverse_aux r (y ∷ ys)
  back-set r x ys y = ap (λ (l : List A). set l (length r) y) (reverse_aux-eq r (x ∷ ys)) ∙ set_at (reverse r) x ys y (length r) (length-reverse r) ∙ sym (reverse_aux-eq r (y ∷ ys))

  pass_back : (r ys : List A) (i : ℕ) (s : S) → let p = passes next plus d Backward (length r) (reverse_aux r ys) i s in
      (p.items ≡ reverse_aux (map next r) ys) × (p.sum ≡ foldl plus s r)
  unfolding passes
  pass_back [] ys i s = (refl, refl)
  pass_back (x ∷ r) ys i s =
      let xs = reverse_aux r (x ∷ ys) in
      let turn : A → List A → Passed A S = λ y l. passes next plus d Backward (length r) l (suc i) (plus s y) in
      let one : turn (get_or xs (length r) d) (set xs (length r) (next (get_or xs (length r) d))) ≡ turn x (reverse_aux r (next x ∷ ys))
      = ap (λ (y : A). turn y (set xs (length r) (next y))) (back-get r x ys) ∙ ap (turn x) (back-set r x ys (next x)) in
      let p = pass_back r (next x ∷ ys) (suc i) (plus s x) in
      (ap (λ (q : Passed A S). q.items) one ∙ p.0, ap (λ (q : Passed A S). q.sum) one ∙ p.1)

map_back : {A : Type 0} (f : A → A) (l r : List A) → map f (reverse_aux l r) ≡ reverse_aux (map f l) (map f r)
map_back f [] r = refl
map_back f (x ∷ l) r = map_back f l (x ∷ r)

twice-back : {A : Type 0} (l ys : List A) → reverse_aux (reverse l) ys ≡ l ++ ys
twice-back l ys = reverse_aux-eq (reverse l) ys ∙ ap (λ (r : List _). r ++ ys) (reverse-reverse l)

module _ {S : Type 0} (next : Event → Event) (plus : S → Event → S) (d : Event) where
  -- a pass over all n elements, whichever way: what stands in the array after it, and the sum
  whole_pass : (order : MixOrder) (xs : List Event) (n : ℕ) (l : List Event) (s : S) → Holds xs n l → let p = passes next plus d order n xs 0 s in
      (p.items ≡ map next l ++ drop n xs) × (p.sum ≡ foldl plus s (in_order order l))
  whole_pass Forward xs n l s h =
      let r = pass_from next plus d n [] xs s (omega (arith, h.sized, h.fits)) in
      (r.0 ∙ ap (λ (x : List Event). map next x ++ drop n xs) h.front, r.1 ∙ ap (foldl plus s) h.front)
  whole_pass Backward xs n l s h =
      let ys = drop n xs in
      let same : xs ≡ reverse_aux (reverse l) ys = sym (take-append-drop n xs) ∙ ap (λ (x : List Event). x ++ ys) h.front ∙ sym (twice-back l ys) in
      let one : passes next plus d Backward n xs 0 s ≡ passes next plus d Backward (length (reverse l)) (reverse_aux (reverse l) ys) 0 s
      = ap₂ (λ (k : ℕ) (x : List Event). passes next plus d Backward k x 0 s) (sym (length-reverse l ∙ holds-length h)) same in
      let r = pass_back next plus d (reverse l) ys 0 s in (
        ap (λ (q : Passed Event S). q.items) one ∙ r.0 ∙ ap (λ (x : List Event). reverse_aux x ys) (map_back next l []) ∙ twice-back (map next l) ys,
        ap (λ (q : Passed Event S). q.sum) one ∙ r.1,
      )

  pub holds_pass : (order : MixOrder) (xs : List Event) (n : ℕ) (l : List Event) (s : S) → Holds xs n l
      → let p = passes next plus d order n xs 0 s in Holds p.items n (map next l) × (p.sum ≡ foldl plus s (in_order order l))
  holds_pass order xs n l s h =
      let r = whole_pass order xs n l s h in
      let count : length (map next l) ≡ n = length-map l next ∙ holds-length h in (
        record {
          sized = ap length r.0 ∙ length-append (map next l) (drop n xs) ∙ omega (arith, count, length-drop n xs, h.sized, h.fits);
          fits = h.fits;
          front = ap (take n) r.0 ∙ take_at (map next l) (drop n xs) n count;
        },
        r.1,
      )
