-- Paper 10, "How true the smooth curve is": what "within 2^-19" means, in fractions of whole numbers over powers of two. Definitions and claims; proofs/SmoothWithin.antt proves them.
use Rattle.std.specs.Prelude.{◌≡◌, Bool, false, ◌&&◌, ℕ, ◌+◌, ◌-◌, ◌*◌, ◌^◌, ◌≤◌, T, negsuc, Float}
use Rattle.std.specs.Float.{nan, inf, fin, binary32}
use Rattle.std.specs.Float.Ieee.{up, down, fits}
use Rattle.floats.specs.Arithmetic.{◌≤ᶠ◌, zeroᶠ, halfᶠ, oneᶠ}
use Rattle.floats.specs.Nearest.{distance}
use Rattle.math.specs.Curves.{smooth}

-- "every f32 phase x from 0 to 1", by IEEE 754's comparison: -0 is one, a NaN is none
abbrev pub phase : Float → Bool
phase x = zeroᶠ ≤ᶠ x && x ≤ᶠ oneᶠ

-- "6x^5 - 15x^4 + 10x^3" for x = p / q, over q ^ 5. What is taken away is never the larger part (`Claims.whole`), so the difference of whole numbers is exact.
abbrev pub polynomial : ℕ → ℕ → ℕ
polynomial p q = 6 * p ^ 5 + 10 * (p ^ 3 * q ^ 2) - 15 * (p ^ 4 * q)

-- |y - (6x^5 - 15x^4 + 10x^3)| for x = p / q and y = ± r / v, over q ^ 5 * v
abbrev pub error : ℕ → ℕ → Bool → ℕ → ℕ → ℕ
error p q t r v = distance t (r * q ^ 5) false (polynomial p q * v)

-- "within 2^-k": of a phase x and a finite y, each the fraction m * up e / down e, the error is at most 1 / 2 ^ k
abbrev pub Within : ℕ → Float → Float → Type 0
Within k (fin s m e) (fin t n d) = 2 ^ k * error (m * up e) (down e) t (n * up d) (down d) ≤ down e ^ 5 * down d
Within k (fin s m e) nan = ⊥
Within k (fin s m e) (inf t) = ⊥
Within k nan y = ⊥
Within k (inf s) y = ⊥

-- y is the polynomial's value at x itself: no 1 / 2 ^ k is too small
abbrev pub Exact : Float → Float → Type 0
Exact x y = (k : ℕ) → Within k x y

pub record Claims : Type 0 where
  -- "For every f32 phase x from 0 to 1, the computed smooth5(x) is to be within 2^-19 of 6x^5 - 15x^4 + 10x^3"
  pub within : (x : Float) → T (fits binary32 x) → T (phase x) → Within 19 x (smooth x)
  -- "the exact values at 0, 1/2 and 1"
  pub at-0 : (smooth zeroᶠ ≡ zeroᶠ) × Exact zeroᶠ zeroᶠ
  pub at-½ : (smooth halfᶠ ≡ halfᶠ) × Exact halfᶠ halfᶠ
  pub at_1 : (smooth oneᶠ ≡ oneᶠ) × Exact oneᶠ oneᶠ
  -- 2^-20 would be too little: at 16738457 / 2 ^ 24 the error is 1.2538 of it
  pub not-20 : Within 20 (fin false 16738457 (negsuc 23)) (smooth (fin false 16738457 (negsuc 23))) → ⊥
  -- `polynomial` cuts nothing off
  pub whole : (p q : ℕ) → p ≤ q → 15 * (p ^ 4 * q) ≤ 6 * p ^ 5 + 10 * (p ^ 3 * q ^ 2)
