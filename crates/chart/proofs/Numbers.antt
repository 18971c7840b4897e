-- Whole numbers of a page, over plain variables. Assumes nothing.
use Prim.Native.Nat.{ℕ, ◌+◌, ◌-◌, ◌*◌, ◌/◌, ◌≤◌, ◌<◌, min}
use mathlib.Core.Path.{◌≡◌, refl, sym, ap, ◌∙◌}
use mathlib.Core.Bool.{Bool, true, false, ◌||◌, cond}
use mathlib.Core.Logic.{◌≢◌, ◌⊎◌, ⊎_elim}
use mathlib.Core.List.{List}
use native.Mathlib.Nat.{zero-mul, zero-div, add-zero, mul-le-mul, mul-le-mul_right, div-le_of_le-mul}
use native.Mathlib.Numerals.{add-one}
use native.Mathlib.Omega.{arith}
use borrow.Author.Tests.{lt-ltb, le-ltb, eq-eqb, ne_eqb}
use lib.Dec.{ltb, eqb}
use lib.ListN.{length, get_or, drop}
use lib.Seq.{drop-cons}
use Rattle.chart.specs.Scale.{latest, between_at, column_of, step_in}

-- ---- between

module _ (a b k n : ℕ) where
  between-empty : min b latest < min a latest → min a latest ≡ between_at a b k n
  unfolding between_at
  between-empty h = go (eqb n 0 || ltb 64 n)
    where
      gap : min b latest - min a latest ≡ 0
      gap = omega arith

      go : (t : Bool) → min a latest ≡ cond t (min a latest) (min a latest + (min b latest - min a latest) * min k n / n)
      go true = refl
      go false = sym (ap (λ d. min a latest + d * min k n / n) gap ∙ ap (λ d. min a latest + d / n) (zero-mul (min k n)) ∙ ap (λ d. min a latest + d) (zero-div n) ∙ add-zero (min a latest))

  between_none : n ≡ 0 → min a latest ≡ between_at a b k n
  unfolding between_at
  between_none h = rw (eq-eqb n 0 h) refl

  between_many : 64 < n → min a latest ≡ between_at a b k n
  unfolding between_at
  between_many h = rw (ne_eqb n 0 (λ e. absurd (omega (arith, e, h))), lt-ltb 64 n h) refl

  -- the code's tests, in their order
  pub between_no_place : (min b latest < min a latest) ⊎ (((min a latest ≤ min b latest) × (n ≡ 0)) ⊎ ((min a latest ≤ min b latest) × (n ≢ 0) × (64 < n))) → min a latest ≡ between_at a b k n
  between_no_place x = ⊎_elim between-empty (⊎_elim (λ y. between_none y.1) (λ y. between_many y.2)) x

  pub between-at : n ≢ 0 → n ≤ 64 → min a latest + (min b latest - min a latest) * min k n / n ≡ between_at a b k n
  unfolding between_at
  between-at h l = rw (ne_eqb n 0 h, le-ltb 64 n l) refl

pub product : (x y : ℕ) → x ≤ 1_125_899_906_842_624 → y ≤ 64 → x * y ≤ 72_057_594_037_927_936
product x y h l = let p = mul-le-mul h l in omega arith

-- ---- columns

pub column_none : (t total : ℕ) → min total latest ≡ 0 → 0 ≡ column_of t total
unfolding column_of
column_none t total h = rw (eq-eqb _ _ h) refl

pub column_at : (t total : ℕ) → min total latest ≢ 0 → min t (min total latest) * 1_400 / min total latest ≡ column_of t total
unfolding column_of
column_at t total h = rw (ne_eqb _ _ h) refl

pub column_within : (t w : ℕ) → min t w * 1_400 / w ≤ 1_400
column_within t w = let l : min t w ≤ w = omega arith in div-le_of_le-mul w (mul-le-mul_right 1_400 l)

-- ---- the axis

pub step_here : (l : List ℕ) (i total : ℕ) → i < length l → total / 14 < get_or l i 0 → get_or l i 0 ≡ step_in (drop i l) total
unfolding step_in
step_here l i total h t = sym (ap (λ (m : List ℕ). step_in m total) (drop-cons l i 0 h) ∙ rw (lt-ltb _ _ t) refl)

pub step_on : (l : List ℕ) (i total : ℕ) → i < length l → get_or l i 0 ≤ total / 14 → step_in (drop i l) total ≡ step_in (drop (i + 1) l) total
unfolding step_in
step_on l i total h t = rw (add-one i) (ap (λ (m : List ℕ). step_in m total) (drop-cons l i 0 h) ∙ rw (le-ltb _ _ t) refl)
