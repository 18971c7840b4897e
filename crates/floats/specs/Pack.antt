-- The bits of an f32 made of q * 2 ^ k of its smallest units, q having at most 24 digits or being 2 ^ 24: they are k * 2 ^ 23 + q under the sign. The carry into the exponent's field comes out right by
-- itself, and an infinity's bits stand where that is no less. Assumes nothing.
use Rattle.std.specs.Prelude.{◌≡◌, ℕ, suc, ◌+◌, ◌-◌, ◌*◌, ◌/◌, ◌^◌, ◌<◌, ◌≤◌, min, Bool, true, false, cond, not, T, nat_lt}
use Rattle.std.proofs.Common.{sym, ◌∙◌, subst, inl, inr, le_trans, le_of_eq, lt_of_lt_of_le, lt_of_le_of_lt, lt_of_not-le, not-le_of_lt, le_refl, le_of_suc-le-suc, eq-zero-or-pos, eq-or-lt_of_le, mul_assoc, mul-div_cancel, mul-le-mul_right, le_of_mul-le-mul_right, add_assoc, arith, ltb→lt, nltb→le, pow-add, pow_pos, pow_mono, shl_lt}
use Rattle.std.proofs.Math.Path.{ap}
use Rattle.std.proofs.Math.Nat.{pow-succ'}
use Rattle.std.proofs.Math.Pow.{pow-lt}
use Rattle.std.specs.Float.{inf, binary32}
use Rattle.std.specs.Float.Ieee.{size, odd, units, to_bits}
use Rattle.std.specs.Float.Ieee.Digits.{size-lt, size-le}
use Rattle.std.specs.Float.Ieee.Exact.{odd_sign}
use Rattle.floats.specs.Values.{bits_at, value_bits}

pub size_gt : (n j : ℕ) → 2 ^ j ≤ n → j < size n
size_gt n j h = lt_of_not-le (λ (g : size n ≤ j). not-le_of_lt (lt_of_lt_of_le (size-lt n) (pow_mono g)) h)

-- ---- the bits of a finite value of n of the smallest units
abbrev pub signed : Bool → ℕ
signed s = cond s (2 ^ 31) 0

units_written : (s : Bool) (q k : ℕ) → to_bits binary32 (odd 25 s q k 149) ≡ bits_at binary32 s (q * 2 ^ k)
units_written s q k = value_bits binary32 (odd 25 s q k 149) s (q * 2 ^ k) (2 ^ 149) (pow_pos 149) (odd_sign 25 s q k 149) ∙ ap (bits_at binary32 s) (mul-div_cancel (q * 2 ^ k) (pow_pos 149))

dropped : (q k : ℕ) → q < 2 ^ 24 → (0 < k → 2 ^ 23 ≤ q) → size (q * 2 ^ k) - 24 ≡ k
dropped q k h l =
    let hi : size (q * 2 ^ k) ≤ 24 + k = size-le (q * 2 ^ k) (24 + k) (shl_lt 24 k h) in
    elim (eq-zero-or-pos k) [
      | inl z ↦ omega arith
      | inr p ↦
          let lo : 23 + k < size (q * 2 ^ k) = size_gt (q * 2 ^ k) (23 + k) (le_trans (le_of_eq (pow-add 2 23 k)) (mul-le-mul_right (2 ^ k) (l p))) in
          omega arith
    ]

-- the two fields, of a q below 2 ^ 24 and of 2 ^ 24, which carries
low_bits : (q k : ℕ) → q < 2 ^ 24 → (0 < k → 2 ^ 23 ≤ q) → (size (q * 2 ^ k) - 24) * 2 ^ 23 + q * 2 ^ k / 2 ^ (size (q * 2 ^ k) - 24) ≡ k * 2 ^ 23 + q
low_bits q k h l = ap (λ (z : ℕ). z * 2 ^ 23 + q * 2 ^ k / 2 ^ z) (dropped q k h l) ∙ ap (λ (x : ℕ). k * 2 ^ 23 + x) (mul-div_cancel q (pow_pos k))

carry_bits : (k : ℕ) → (size (2 ^ 24 * 2 ^ k) - 24) * 2 ^ 23 + 2 ^ 24 * 2 ^ k / 2 ^ (size (2 ^ 24 * 2 ^ k) - 24) ≡ k * 2 ^ 23 + 2 ^ 24
carry_bits k =
    let lo : 24 + k < size (2 ^ 24 * 2 ^ k) = size_gt (2 ^ 24 * 2 ^ k) (24 + k) (le_of_eq (pow-add 2 24 k)) in
    let hi : size (2 ^ 24 * 2 ^ k) ≤ 25 + k = size-le (2 ^ 24 * 2 ^ k) (25 + k) (shl_lt 25 k (omega arith)) in
    let z : size (2 ^ 24 * 2 ^ k) - 24 ≡ suc k = omega arith in
    let e : 2 ^ 24 * 2 ^ k ≡ 2 ^ 23 * 2 ^ suc k = mul_assoc (2 ^ 23) 2 (2 ^ k) ∙ ap (λ (x : ℕ). 2 ^ 23 * x) (sym (pow-succ' 2 k)) in
    ap (λ (z : ℕ). z * 2 ^ 23 + 2 ^ 24 * 2 ^ k / 2 ^ z) z ∙ ap (λ (x : ℕ). suc k * 2 ^ 23 + x) (ap (λ (x : ℕ). x / 2 ^ suc k) e ∙ mul-div_cancel (2 ^ 23) (pow_pos (suc k))) ∙ again k
  where
    again : (k : ℕ) → suc k * 2 ^ 23 + 2 ^ 23 ≡ k * 2 ^ 23 + 2 ^ 24
    again k = omega arith

finite_bits : (q k : ℕ) → q ≤ 2 ^ 24 → (0 < k → 2 ^ 23 ≤ q) → (size (q * 2 ^ k) - 24) * 2 ^ 23 + q * 2 ^ k / 2 ^ (size (q * 2 ^ k) - 24) ≡ k * 2 ^ 23 + q
finite_bits q k h l = elim (eq-or-lt_of_le h) [
  | inl e ↦ subst (λ (q : ℕ). (size (q * 2 ^ k) - 24) * 2 ^ 23 + q * 2 ^ k / 2 ^ (size (q * 2 ^ k) - 24) ≡ k * 2 ^ 23 + q) (sym e) (carry_bits k)
  | inr p ↦ low_bits q k p l
]

-- ---- which side of an infinity's bits
under : (q k : ℕ) → q ≤ 2 ^ 24 → (0 < k → 2 ^ 23 ≤ q) → q * 2 ^ k < 2 ^ 277 → k * 2 ^ 23 + q ≤ 255 * 2 ^ 23
under q k h l f =
    let few : k < 254 = lt_of_not-le (λ (g : 254 ≤ k).
    not-le_of_lt f (le_trans (pow_mono (more k g)) (le_trans (le_of_eq (pow-add 2 23 k)) (mul-le-mul_right (2 ^ k) (l (some k g)))))) in
    omega arith
  where
    more : (k : ℕ) → 254 ≤ k → 277 ≤ 23 + k
    more k g = omega arith

    some : (k : ℕ) → 254 ≤ k → 0 < k
    some k g = omega arith

over : (q k : ℕ) → q ≤ 2 ^ 24 → (0 < k → 2 ^ 23 ≤ q) → 2 ^ 277 ≤ q * 2 ^ k → 255 * 2 ^ 23 ≤ k * 2 ^ 23 + q
over q k h l f =
    elim (eq-or-lt_of_le many) [
      | inl e ↦ let g : 2 ^ 24 ≤ q = le_of_mul-le-mul_right {m = 2 ^ 24} {n = q} {k = 2 ^ 253} (subst (λ (k : ℕ). 2 ^ 277 ≤ q * 2 ^ k) (sym e) f) (pow_pos 253) in tie k q e g
      | inr p ↦ let g : 2 ^ 23 ≤ q = l (some k p) in omega arith
    ]
  where
    some : (k : ℕ) → 253 < k → 0 < k
    some k g = omega arith

    tie : (k q : ℕ) → 253 ≡ k → 2 ^ 24 ≤ q → 255 * 2 ^ 23 ≤ k * 2 ^ 23 + q
    tie k q e g = omega arith

    less : (k : ℕ) → k < 253 → 24 + k ≤ 276
    less k g = omega arith

    many : 253 ≤ k
    many =
        le_of_suc-le-suc (lt_of_not-le (λ (g : suc k ≤ 253).
        not-le_of_lt (lt_of_le_of_lt (le_trans (mul-le-mul_right (2 ^ k) h) (le_trans (le_of_eq (sym (pow-add 2 24 k))) (pow_mono (less k g)))) (pow-lt {i = 276} {j = 277} (le_refl 277))) f))

-- ---- the bits of what `units` makes
pub units_bits : (s : Bool) (q k : ℕ) → q ≤ 2 ^ 24 → (0 < k → 2 ^ 23 ≤ q) → to_bits binary32 (units binary32 s q k) ≡ signed s + min (k * 2 ^ 23 + q) (255 * 2 ^ 23)
unfolding units
units_bits s q k h l = go (nat_lt (q * 2 ^ k) (2 ^ 277)) (ltb→lt (q * 2 ^ k) (2 ^ 277)) (nltb→le (q * 2 ^ k) (2 ^ 277))
  where
    fit : (a b : ℕ) → a ≤ b → a ≡ min a b
    fit a b h = omega arith

    cut : (a b : ℕ) → b ≤ a → b ≡ min a b
    cut a b h = omega arith

    go : (b : Bool) → (T b → q * 2 ^ k < 2 ^ 277) → (T (not b) → 2 ^ 277 ≤ q * 2 ^ k) → to_bits binary32 (cond b (odd 25 s q k 149) (inf s)) ≡ signed s + min (k * 2 ^ 23 + q) (255 * 2 ^ 23)
    go true a b =
        units_written s q k
        ∙ add_assoc (signed s) ((size (q * 2 ^ k) - 24) * 2 ^ 23) (q * 2 ^ k / 2 ^ (size (q * 2 ^ k) - 24))
        ∙ ap (λ (x : ℕ). signed s + x) (finite_bits q k h l ∙ fit (k * 2 ^ 23 + q) (255 * 2 ^ 23) (under q k h l (a tt)))
    go false a b = unfold to_bits in ap (λ (x : ℕ). signed s + x) (cut (k * 2 ^ 23 + q) (255 * 2 ^ 23) (over q k h l (b tt)))
