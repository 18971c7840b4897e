-- The loop of `drain_sorted`: what has left the heap, and what the rest of it gives, are the heap's keys in order. Assumes nothing.
use mathlib.Core.Bool.{false, Bool-set}
use mathlib.Core.Path.{◌≡◌, refl, sym, ap, ◌∙◌, subst}
use mathlib.Core.Logic.{⊎_elim, ∥∥₁_elim}
use mathlib.Core.List.Memᴰ
use mathlib.Core.List.Perm
use mathlib.Core.List.{List, [], ◌∷◌, ◌++◌, map, Memᴰ}
use Prim.Native.Nat.{ℕ, zero, suc, ◌+◌, ◌-◌, ◌≤◌, ◌<◌}
use native.Mathlib.Omega.{arith}
use native.Mathlib.Numerals.{add-one}
use lib.ListN.{length, get_or, set, take, drop, take-append-drop}
use lib.Seq.{take-suc-set, drop-set-lt, drop-drop}
use Rattle.ready.specs.Sift.{sink}
use Rattle.ready.proofs.HeapOrder.{root_least, pop_ordered, moves-length, sink_moves}
use Rattle.ready.specs.HeapOrder.{Heap-ordered}
use Rattle.ready.proofs.Stands.{pop_perm}
use Rattle.overlap.specs.Insertion.{least_first}
use Rattle.overlap.specs.Keys.{Key, number_of_key, key_less, key_order, no_key, keys_in_order, keys_perm}

-- what is among the first n has a place there
place : (n : ℕ) (xs : List Key) (y : Key) → Memᴰ y (take n xs) → (j : ℕ) × (j < n) × (y ≡ get_or xs j no_key)
place zero xs y m = absurd (Memᴰ.not-nil m)
place (suc n) [] y m = absurd (Memᴰ.not-nil m)
place (suc n) (x ∷ xs) y m = ⊎_elim (λ e. (0, omega arith, e)) (λ k. let r = place n xs y k in (suc r.0, omega (arith, r.1), r.2)) (Memᴰ.cases_cons m)

-- the heap once its first has left
abbrev pub left : List Key → ℕ → List Key
left xs m = sink key_less no_key m xs m 0 (get_or xs m no_key)

-- the first leaves, and the rest is in order behind it
first-leaves : (xs : List Key) (m : ℕ) → m < length xs → Heap-ordered key_less no_key xs (suc m)
    → keys_in_order (take (suc m) xs) ≡ number_of_key (get_or xs 0 no_key) ∷ keys_in_order (take m (left xs m))
first-leaves xs m h o =
    sym (keys_perm (pop_perm key_less no_key xs m h)) ∙ ap (λ (l : List Key). map number_of_key l) (least_first key_less (get_or xs 0 no_key) (take m (left xs m)) late)
  where
    late : (y : Key) → Memᴰ y (take m (left xs m)) → key_less y (get_or xs 0 no_key) ≡ false
    late y k =
        ∥∥₁_elim (Perm.subset (pop_perm key_less no_key xs m h) y ∣ Memᴰ.tail k ∣₁) (Bool-set _ _)
        (λ d. let j = place (suc m) xs y d in rw j.2 (root_least key_less no_key key_order xs (suc m) o j.0 j.0 (omega arith) j.1))

-- a list whose rest from k on begins with v
next : (k : ℕ) (l : List ℕ) (v : ℕ) (t : List ℕ) → drop k l ≡ v ∷ t → (take (suc k) l ≡ take k l ++ (v ∷ [])) × (drop (suc k) l ≡ t)
next zero [] v t h = absurd (let z : ◌≡◌ {A = ℕ} 0 1 = cc in omega arith)
next zero (x ∷ l) v t h = (ap (λ (y : List ℕ). take 1 y) h, ap (λ (y : List ℕ). drop 1 y) h)
next (suc k) [] v t h = absurd (let z : ◌≡◌ {A = ℕ} 0 1 = cc in omega arith)
next (suc k) (x ∷ l) v t h = let r = next k l v t h in (ap (λ (y : List ℕ). x ∷ y) r.0, r.1)

module _ (ks : List Key) (count : ℕ) (out₀ : List ℕ) where
  -- all of it, in order
  abbrev all : List ℕ
  all = keys_in_order (take count ks)

  pub record Draining (k : ℕ) (xs : List Key) (out : List ℕ) : Type 0 where
    pub within : k ≤ count
    pub fits : count ≤ length xs
    pub ordered : Heap-ordered key_less no_key xs (count - k)
    pub rest : keys_in_order (take (count - k) xs) ≡ drop k all
    pub front : take k out ≡ take k all
    pub back : drop k out ≡ drop k out₀

  pub draining_start : count ≤ length ks → Heap-ordered key_less no_key ks count → Draining 0 ks out₀
  draining_start h o = let q : count - 0 ≡ count = omega arith in record { within = omega arith; fits = h; ordered = rw q o; rest = rw q refl; front = refl; back = refl }

  step : (m k : ℕ) (xs : List Key) (out : List ℕ) → count - k ≡ suc m → k < length out → Draining k xs out → Draining (suc k) (left xs m) (set out k (number_of_key (get_or xs 0 no_key)))
  step m k xs out e h d =
      let v = number_of_key (get_or xs 0 no_key) in
      let a = d.fits in
      let n : count - suc k ≡ m = omega arith in
      let o : Heap-ordered key_less no_key xs (suc m) = subst (λ (n : ℕ). Heap-ordered key_less no_key xs n) e d.ordered in
      let r : keys_in_order (take (suc m) xs) ≡ drop k all = subst (λ (n : ℕ). keys_in_order (take n xs) ≡ drop k all) e d.rest in
      let t = next k all v (keys_in_order (take m (left xs m))) (sym r ∙ first-leaves xs m (omega arith) o) in
      record {
        within = omega arith;
        fits = rw (moves-length key_less no_key (sink_moves key_less no_key m m xs 0 (get_or xs m no_key) (omega arith))) a;
        ordered = rw n (pop_ordered key_less no_key key_order xs m (get_or xs m no_key) (omega arith) o);
        rest = rw n (sym t.1);
        front = take-suc-set out k v h ∙ ap (λ (y : List ℕ). y ++ (v ∷ [])) d.front ∙ sym t.0;
        back = drop-set-lt (suc k) out k v (omega arith) ∙ further k out out₀ d.back;
      }
    where
      further : (k : ℕ) (a b : List ℕ) → drop k a ≡ drop k b → drop (suc k) a ≡ drop (suc k) b
      further k a b h = let q : suc k ≡ k + 1 = sym (add-one k) in rw q (sym (drop-drop 1 k a) ∙ ap (λ (y : List ℕ). drop 1 y) h ∙ drop-drop 1 k b)

  pub draining_turn : (k : ℕ) (xs ys : List Key) (out : List ℕ) (v : ℕ) → k < count → k < length out → v ≡ number_of_key (get_or xs 0 no_key) → ys ≡ left xs (count - k - 1) → Draining k xs out
      → Draining (k + 1) ys (set out k v)
  draining_turn k xs ys out v p h u q d = rw (q, u, add-one) (step (count - k - 1) k xs out (omega arith) h d)

  pub draining_done : (n k : ℕ) (xs : List Key) (out : List ℕ) → k ≤ n → n ≤ k → Draining k xs out → out ≡ take n all ++ drop n out₀
  draining_done n k xs out p q d = let e : n ≡ k = omega arith in rw e (sym (take-append-drop k out) ∙ (λ i. d.front i ++ d.back i))
