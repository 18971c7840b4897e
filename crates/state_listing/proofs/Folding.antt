-- A fold over the first n things is digesting each of them, from place 0 on. Assumes nothing.
use Rattle.std.proofs.Common.{◌≡◌, ℕ, zero, suc, ◌+◌, ◌-◌, ◌<◌, ◌≤◌, List, [], ◌∷◌, length, take, get_or, sym, refl, ap, ◌∙◌, add-one, arith}
use Rattle.std.specs.List.{fold}
use Rattle.state_listing.specs.Digests.{each}

module _ {A : Type 0} (g : ℕ → A → ℕ) (x : A) where
  folded_from : (f : ℕ → ℕ → ℕ) (xs : List A) (n i d : ℕ) → ((k e : ℕ) → f (i + k) e ≡ g e (get_or xs k x)) → n ≤ length xs → fold g d (take n xs) ≡ each f n i d
  unfolding each
  folded_from f xs zero i d h l = refl
  folded_from f [] (suc n) i d h l = absurd (omega arith)
  folded_from f (y ∷ ys) (suc n) i d h l =
      let first : i ≡ i + 0 = omega arith in
      folded_from f ys n (suc i) (g d y) (λ k e. let next : suc i + k ≡ i + suc k = omega arith in ap (λ (j : ℕ). f j e) next ∙ h (suc k) e) (omega arith)
      ∙ ap (λ (r : ℕ). each f n (suc i) r) (sym (ap (λ (j : ℕ). f j d) first ∙ h 0 d))

  pub folded : (xs : List A) (n m : ℕ) → n ≡ m → n ≤ length xs → fold g 0 (take n xs) ≡ each (λ i d. g d (get_or xs i x)) m 0 0
  folded xs n m e l =
      folded_from (λ i d. g d (get_or xs i x)) xs n 0 0 (λ k d. let z : 0 + k ≡ k = omega arith in ap (λ (j : ℕ). g d (get_or xs j x)) z) l
      ∙ ap (λ (k : ℕ). each (λ i d. g d (get_or xs i x)) k 0 0) e

-- the same by a loop: what is left after place i
module _ (f : ℕ → ℕ → ℕ) (m : ℕ) where
  pub starts : each f (m - 0) 0 0 ≡ each f m 0 0
  starts = let z : m - 0 ≡ m = omega arith in ap (λ (k : ℕ). each f k 0 0) z

  pub goes_on : (i d e : ℕ) → i < m → e ≡ f i d → each f (m - (i + 1)) (i + 1) e ≡ each f (m - i) i d
  unfolding each
  goes_on i d e l h =
      let z : m - i ≡ suc (m - (i + 1)) = omega arith in
      ap (λ (x : ℕ). each f (m - (i + 1)) (i + 1) x) h ∙ ap (λ (k : ℕ). each f (m - (i + 1)) k (f i d)) (add-one i) ∙ sym (ap (λ (k : ℕ). each f k i d) z)

  pub ends : (i d : ℕ) → m ≤ i → each f (m - i) i d ≡ d
  unfolding each
  ends i d l = let z : m - i ≡ 0 = omega arith in ap (λ (k : ℕ). each f k i d) z
