-- A heap stands for a list: one more stands for the list with it, and where the list's first comes before the others, it is the root. Assumes nothing.
use Rattle.std.specs.Prelude.{Bool, true, false, ◌≡◌, refl, ℕ, zero, suc, ◌≤◌, ◌<◌, get_or, set, length, take, drop}
use Rattle.std.proofs.Common.{sym, ap, ◌∙◌, ⊎_elim, arith, take-append-drop, length-take-le, take-suc, take-suc-set, get_or-take, drop-set-lt}
use Rattle.std.proofs.Math.Logic.Or
use Rattle.std.proofs.Math.Logic.{∥∥₁_elim}
use mathlib.Core.HLevel.{×_prop, ⊥_prop, hedberg}
use mathlib.Core.List.Memᴰ
use mathlib.Core.List.Perm
use mathlib.Core.List.{List, [], ◌∷◌, ◌++◌, Memᴰ, mem-cons_self, Perm, Perm-prop, perm-append_right_iff, perm_append_singleton, Permᴰ}
use Rattle.std.proofs.Math.Decide.{ℕ_discrete}
use Rattle.std.proofs.Math.Seq.{take-set-lt}
use Rattle.std.proofs.lemmas.List.{set-get_or}
use Rattle.ready.specs.Sift.{rise, sink}
use Rattle.ready.specs.HeapOrder.{Order}
use Rattle.ready.proofs.HeapOrder.{Moves, moves_perm, moves-drop, moves-length, rise_moves, sink_moves, push-ordered, pop_ordered, root_least, perm_eq, one}
use Rattle.ready.specs.Stands.{Stands}

-- a permutation is as long
permᴰ_length : {A : Type 0} {l m : List A} → Permᴰ l m → length l ≡ length m
permᴰ_length Permᴰ.nil = refl
permᴰ_length (Permᴰ.cons e d) = ap suc (permᴰ_length d)
permᴰ_length (Permᴰ.swap p q) = refl
permᴰ_length (Permᴰ.trans d e) = permᴰ_length d ∙ permᴰ_length e

perm_length : {A : Type 0} {l m : List A} → Perm l m → length l ≡ length m
perm_length {A} {l} {m} p = ∥∥₁_elim p (hedberg ℕ_discrete (length l) (length m)) permᴰ_length

module _ {A : Type 0} (less : A → A → Bool) (z : A) where
  moves_front : {n : ℕ} {xs : List A} {i : ℕ} {e : A} {r : List A} → n ≤ length xs → i < n → Moves less z n xs i e r → Perm (take n r) (take n (set xs i e))
  moves_front {n} {xs} {i} {e} {r} h k m = (perm-append_right_iff (drop n xs)).0 whole
    where
      whole : Perm (take n r ++ drop n xs) (take n (set xs i e) ++ drop n xs)
      whole =
          Perm.trans (perm_eq (ap (λ (l : List A). take n r ++ l) (sym (moves-drop less z k m)) ∙ take-append-drop n r))
          (Perm.trans (moves_perm less z h k m) (perm_eq (sym (take-append-drop n (set xs i e)) ∙ ap (λ (l : List A). take n (set xs i e) ++ l) (drop-set-lt n xs i e k))))

  pub push_perm : (xs : List A) (n : ℕ) (e : A) → n < length xs → Perm (take (suc n) (rise less z n xs n e)) (e ∷ take n xs)
  push_perm xs n e h =
      Perm.trans (moves_front h (omega arith) (rise_moves less z n (suc n) xs n e (omega arith)))
      (Perm.trans (perm_eq (take-suc-set xs n e h)) (perm_append_singleton e (take n xs)))

  pub pop_perm : (xs : List A) (m : ℕ) → m < length xs → Perm (get_or xs 0 z ∷ take m (sink less z m xs m 0 (get_or xs m z))) (take (suc m) xs)
  pop_perm xs zero h = perm_eq (sym (take-suc xs 0 z h))
  pop_perm xs (suc m) h = Perm.trans (Perm.cons (get_or xs 0 z) front) (Perm.trans back (Perm.trans (Perm.symm (perm_append_singleton b l)) (perm_eq (sym (take-suc xs (suc m) z h)))))
    where
      b : A
      b = get_or xs (suc m) z

      l : List A
      l = take (suc m) xs

      front : Perm (take (suc m) (sink less z (suc m) xs (suc m) 0 (get_or xs (suc m) z))) (set l 0 b)
      front = Perm.trans (moves_front (omega arith) (omega arith) (sink_moves less z (suc m) (suc m) xs 0 b (omega arith))) (perm_eq (take-set-lt (suc m) xs 0 b (omega arith)))

      back : Perm (get_or xs 0 z ∷ set l 0 b) (b ∷ l)
      back =
          let a = get_or xs 0 z in
          let n : 0 < length l = rw (length-take-le (suc m) xs (omega arith)) (omega arith) in
          Perm.trans (one l 0 a b n) (perm_eq (ap (λ (x : List A). b ∷ x) (ap (λ (y : A). set l 0 y) (sym (get_or-take (suc m) xs 0 z (omega arith))) ∙ set-get_or l 0 z)))

  sink_length : (f : ℕ) (xs : List A) (n : ℕ) (e : A) → length (sink less z f xs n 0 e) ≡ length xs
  sink_length f xs n e = moves-length less z (sink_moves less z f n xs 0 e (omega arith))

  -- what stands in the first n has a place there
  mem_at : (n : ℕ) (xs : List A) (y : A) → Memᴰ y (take n xs) → (j : ℕ) × (j < n) × (y ≡ get_or xs j z)
  mem_at zero xs y m = absurd (Memᴰ.not-nil m)
  mem_at (suc n) [] y m = absurd (Memᴰ.not-nil m)
  mem_at (suc n) (x ∷ xs) y m = ⊎_elim (λ e. (0, omega arith, e)) (λ k. let r = mem_at n xs y k in (suc r.0, omega (arith, r.1), r.2)) (Memᴰ.cases_cons m)

  pub stands-length : {xs : List A} {n : ℕ} {w : List A} → Stands less z xs n w → n ≡ length w
  stands-length {xs} {n} s = sym (length-take-le n xs s.fits) ∙ perm_length s.same

  module _ (ord : Order less) where
    -- e rises into a heap that stands for w: so the heap stands for any arrangement of e and w
    pub stands-push : (xs : List A) (n : ℕ) (w v : List A) (e : A) → n < length xs → Perm (e ∷ w) v → Stands less z xs n w → Stands less z (rise less z n xs n e) (suc n) v
    stands-push xs n w v e h p s = record {
      fits = rw (moves-length less z (rise_moves less z n (suc n) xs n e (omega arith))) h;
      ordered = push-ordered less z ord xs n e h s.ordered;
      same = Perm.trans (push_perm xs n e h) (Perm.trans (Perm.cons e s.same) p);
    }

    -- x comes before all of w: it is the root, and once the last has sunk from there the heap stands for w
    pub stands_pop : IsSet A → (xs : List A) (m : ℕ) (x : A) (w : List A) → ((y : A) → Memᴰ y w → less x y ≡ true) → Stands less z xs (suc m) (x ∷ w)
        → (get_or xs 0 z ≡ x) × Stands less z (sink less z m xs m 0 (get_or xs m z)) m w
    stands_pop set? xs m x w before s = (
      heads.0,
      record {
        fits = rw (sink_length m xs m (get_or xs m z)) (omega (arith, s.fits));
        ordered = pop_ordered less z ord xs m (get_or xs m z) s.fits s.ordered;
        same = heads.1;
      },
    )
      where
        r : List A
        r = sink less z m xs m 0 (get_or xs m z)

        clash : ((cs : List A) × Perm (take m r) (x ∷ cs) × Perm w (get_or xs 0 z ∷ cs)) → ⊥
        clash k =
            ∥∥₁_elim (Perm.subset (Perm.symm k.2) (get_or xs 0 z) mem-cons_self) ⊥_prop
            (λ d. ∥∥₁_elim (Perm.subset (Perm.symm s.same) x mem-cons_self) ⊥_prop
            (λ d'. let j = mem_at (suc m) xs x d' in
            let late : less x (get_or xs 0 z) ≡ false = rw j.2 (root_least less z ord xs (suc m) s.ordered j.0 j.0 (omega arith) j.1) in
            let soon : less x (get_or xs 0 z) ≡ true = before (get_or xs 0 z) d in
            let t : ◌≡◌ {A = ℕ} 0 1 = cc in
            omega arith))

        heads : (get_or xs 0 z ≡ x) × Perm (take m r) w
        heads = Or.elim (×_prop (set? _ _) Perm-prop) (Perm.cons-cons_cases (Perm.trans (pop_perm xs m s.fits) s.same)) (λ k. k) (λ k. absurd (clash k))
