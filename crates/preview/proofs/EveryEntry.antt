-- A rule of a table, proved at all of its entries by one test that antt computes, one entry after the other. Assumes nothing.
use mathlib.Core.Path.{◌∙◌, subst, sym}
use mathlib.Core.Bool.{Bool, true, ◌&&◌}
use mathlib.Core.List.{List, [], ◌∷◌}
use Prim.Native.Nat.{ℕ, zero, suc, ◌+◌, ◌<◌}
use native.Mathlib.Nat.{add-zero, zero-add, add-suc, suc-add, le_of_suc-le-suc, not-suc-le-zero}
use lib.Dec.{T}
use lib.Ieee.Fits.{and_l, and_r}
use lib.ListN.{length, get_or}

module _ {A : Type 0} (test : ℕ → A → Bool) where
  -- the test passes at each entry of the list and its place, counted from i
  abbrev pub every : ℕ → List A → Bool
  every i [] = true
  every i (x ∷ xs) = test i x && every (suc i) xs

  from : (xs : List A) (i : ℕ) → T (every i xs) → (k : ℕ) (d : A) → k < length xs → T (test (i + k) (get_or xs k d))
  from [] i t k d h = absurd (not-suc-le-zero h)
  from (x ∷ xs) i t zero d h = subst (λ (m : ℕ). T (test m x)) (sym (add-zero i)) (and_l (test i x) (every (suc i) xs) t)
  from (x ∷ xs) i t (suc k) d h =
      subst (λ (m : ℕ). T (test m (get_or xs k d))) (suc-add i k ∙ sym (add-suc i k))
      (from xs (suc i) (and_r (test i x) (every (suc i) xs) t) k d (le_of_suc-le-suc h))

  pub at : (xs : List A) → T (every 0 xs) → (k : ℕ) (d : A) → k < length xs → T (test k (get_or xs k d))
  at xs t k d h = subst (λ (m : ℕ). T (test m (get_or xs k d))) (zero-add k) (from xs 0 t k d h)
