-- Rounding on the grid of a format of p digits, in units of its smallest value: of a / c the format keeps `kept` * 2 ^ `drop` units (`lib.Ieee.Order`), which is nearest to a / c among all m * 2 ^ j with
-- m below 2 ^ p, and where another of these is as near `kept` is even. Assumes nothing.
use Rattle.std.specs.Prelude.{◌≡◌, ℕ, suc, ◌+◌, ◌-◌, ◌*◌, ◌/◌, ◌%◌, ◌^◌, ◌<◌, ◌≤◌, ◌⊎◌}
use Rattle.std.proofs.Common.{sym, ap, ◌∙◌, subst, inl, inr, le_trans, le_of_eq, lt_irrefl, lt_of_lt_of_le, lt_of_le_of_lt, mul_assoc, mul_comm, mul-pos, mul-lt-mul_of_pos_right, le-div_iff_mul-le, arith, pow-add, pow_pos, pow_mono, shl_lt}
use Prim.Native.Nat.{compare}
use Rattle.std.proofs.Math.Nat.{div-div-eq-div-mul}
use Rattle.std.proofs.Math.Decide.{dec_lt}
use lib.Ieee.{size}
use Rattle.std.specs.Float.Ieee.Digits.{size_reaches}
use Rattle.std.specs.Float.Ieee.Fits.{kept-lt, nearest-le}
use Rattle.std.specs.Float.Ieee.Nearest.{nearest-ge}
use Rattle.std.specs.Float.Ieee.Order.{drop, kept}
use Rattle.floats.specs.Closest.{gap, Closest, closest_is}

module _ (p a c : ℕ) (P : 0 < p) (C : 0 < c) where
  abbrev k : ℕ
  k = drop p a c

  abbrev u : ℕ
  u = c * 2 ^ k

  abbrev q : ℕ
  q = kept p a c

  u_pos : 0 < u
  u_pos = mul-pos C (pow_pos k)

  best : Closest a u q
  best = closest_is a u u_pos

  -- q * 2 ^ k units are q * u of a's fraction
  on_grid : (y : ℕ) → y * 2 ^ k * c ≡ y * u
  on_grid y = mul_assoc y (2 ^ k) c ∙ ap (λ (z : ℕ). y * z) (mul_comm (2 ^ k) c)

  -- where digits are dropped, a has all p of them
  full : 0 < k → 2 ^ (p - 1) * u ≤ a
  full h =
      let l : p - 1 + k < size (a / c) = omega arith in
      le_trans (le_of_eq (sym (on_grid (2 ^ (p - 1))) ∙ ap (λ (z : ℕ). z * c) (sym (pow-add 2 (p - 1) k)))) ((le-div_iff_mul-le C).0 (size_reaches (a / c) (p - 1 + k) l))

  pub kept_full : 0 < k → 2 ^ (p - 1) ≤ q
  kept_full h = le_trans ((le-div_iff_mul-le u_pos).1 (full h)) (nearest-ge (a / u) (compare (a % u * 2) u))

  pub kept_most : q ≤ 2 ^ p
  kept_most = le_trans (nearest-le (a / u) (compare (a % u * 2) u)) (subst (λ (x : ℕ). x < 2 ^ p) (div-div-eq-div-mul a c (2 ^ k)) (kept-lt p (a / c)))

  -- a multiple of a smaller power than 2 ^ k is below all that a could round to, and farther
  smaller : (m j : ℕ) → m < 2 ^ p → j < k → gap a (q * u) < gap a (m * 2 ^ j * c)
  smaller m j h l =
      let z : suc (p + j) ≤ p + k = omega arith in
      let w : m * 2 ^ j < 2 ^ (p + j) = shl_lt p j h in
      let v : 2 ^ (p + j) ≤ 2 ^ (p - 1 + k) = pow_mono (less p j k P l) in
      let below : m * 2 ^ j * c < 2 ^ (p - 1) * u = lt_of_lt_of_le (mul-lt-mul_of_pos_right (lt_of_lt_of_le w v) C) (le_of_eq (ap (λ (z : ℕ). z * c) (pow-add 2 (p - 1) k) ∙ on_grid (2 ^ (p - 1)))) in
      far (q * u) (2 ^ (p - 1) * u) (m * 2 ^ j * c) (full (lt_of_le_of_lt (zero_least j) l)) below (best.near (2 ^ (p - 1)))
    where
      zero_least : (j : ℕ) → 0 ≤ j
      zero_least j = omega arith

      less : (p j k : ℕ) → 0 < p → j < k → p + j ≤ p - 1 + k
      less p j k h l = omega arith

      far : (Q B Y : ℕ) → B ≤ a → Y < B → gap a Q ≤ gap a B → gap a Q < gap a Y
      far Q B Y h l n = omega arith

  -- the others are multiples of 2 ^ k
  multiple : (m j : ℕ) → k ≤ j → m * 2 ^ j ≡ m * 2 ^ (j - k) * 2 ^ k
  multiple m j h =
      let e : j ≡ j - k + k = omega arith in
      ap (λ (z : ℕ). m * z) (ap (λ (z : ℕ). 2 ^ z) e ∙ pow-add 2 (j - k) k) ∙ sym (mul_assoc m (2 ^ (j - k)) (2 ^ k))

  at-multiple : (m j : ℕ) → k ≤ j → m * 2 ^ j * c ≡ m * 2 ^ (j - k) * u
  at-multiple m j h = ap (λ (z : ℕ). z * c) (multiple m j h) ∙ on_grid (m * 2 ^ (j - k))

  pub grid_near : (m j : ℕ) → m < 2 ^ p → gap a (q * 2 ^ k * c) ≤ gap a (m * 2 ^ j * c)
  grid_near m j h = subst (λ (z : ℕ). gap a z ≤ gap a (m * 2 ^ j * c)) (sym (on_grid q)) (go (dec_lt j k))
    where
      weak : (x y : ℕ) → x < y → x ≤ y
      weak x y l = omega arith

      go : Dec (j < k) → gap a (q * u) ≤ gap a (m * 2 ^ j * c)
      go (yes l) = weak (gap a (q * u)) (gap a (m * 2 ^ j * c)) (smaller m j h l)
      go (no l) = subst (λ (z : ℕ). gap a (q * u) ≤ gap a z) (sym (at-multiple m j (omega arith))) (best.near (m * 2 ^ (j - k)))

  pub grid_even : (m j : ℕ) → m < 2 ^ p → gap a (m * 2 ^ j * c) ≤ gap a (q * 2 ^ k * c) → (m * 2 ^ j ≡ q * 2 ^ k) ⊎ (q % 2 ≡ 0)
  grid_even m j h n = go (dec_lt j k) (subst (λ (z : ℕ). gap a (m * 2 ^ j * c) ≤ gap a z) (on_grid q) n)
    where
      named : k ≤ j → (m * 2 ^ (j - k) ≡ q) ⊎ (q % 2 ≡ 0) → (m * 2 ^ j ≡ q * 2 ^ k) ⊎ (q % 2 ≡ 0)
      named l (inl e) = inl (multiple m j l ∙ ap (λ (z : ℕ). z * 2 ^ k) e)
      named l (inr e) = inr e

      go : Dec (j < k) → gap a (m * 2 ^ j * c) ≤ gap a (q * u) → (m * 2 ^ j ≡ q * 2 ^ k) ⊎ (q % 2 ≡ 0)
      go (yes l) n = absurd (lt_irrefl (gap a (q * u)) (lt_of_lt_of_le (smaller m j h l) n))
      go (no l) n = let g : k ≤ j = omega arith in named g (best.even (m * 2 ^ (j - k)) (subst (λ (z : ℕ). gap a z ≤ gap a (q * u)) (at-multiple m j g) n))
