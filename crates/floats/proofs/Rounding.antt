-- M * 2 ^ x of the smallest values of binary64, rounded to binary32: how many digits are dropped, in the ways that `narrow_bits` takes. Assumes nothing.
use Rattle.std.proofs.Common.{◌≡◌, ℕ, ◌+◌, ◌-◌, ◌*◌, ◌/◌, ◌^◌, ◌<◌, ◌≤◌, Bool, sym, ap, ◌∙◌, le_trans, le_of_eq, lt_of_lt_of_le, lt_of_le_of_lt, mul-le-mul_right, mul_assoc, div-lt_iff_lt-mul, mul-pos, le-div_iff_mul-le, arith, pow_pos, pow_mono, pow-add, shl_lt}
use lib.Ieee.{binary32, size, units, round}
use lib.Ieee.Digits.{size-le}
use lib.Ieee.Fits.{round_is}
use lib.Ieee.Nearest.{closest, closest_same}
use Rattle.floats.specs.Pack.{size_gt}

pows : (M a b c d e : ℕ) → a + (b + c) ≡ d + e → M * 2 ^ a * 2 ^ b * 2 ^ c ≡ M * (2 ^ d * 2 ^ e)
pows M a b c d e h =
    mul_assoc (M * 2 ^ a) (2 ^ b) (2 ^ c)
    ∙ mul_assoc M (2 ^ a) (2 ^ b * 2 ^ c)
    ∙ ap (λ (z : ℕ). M * z) (ap (λ (z : ℕ). 2 ^ a * z) (sym (pow-add 2 b c)) ∙ sym (pow-add 2 a (b + c)) ∙ ap (λ (z : ℕ). 2 ^ z) h ∙ pow-add 2 d e)

-- the whole part of the fraction in units of binary32, from above and from below
whole-lt : (M x j : ℕ) → M < 2 ^ 53 → x + 202 ≤ 1074 + j → M * 2 ^ x * 2 ^ 149 / 2 ^ 1074 < 2 ^ j
whole-lt M x j h l =
    (div-lt_iff_lt-mul (pow_pos 1074)).1
    (lt_of_le_of_lt (le_of_eq (mul_assoc M (2 ^ x) (2 ^ 149) ∙ ap (λ (z : ℕ). M * z) (sym (pow-add 2 x 149))))
    (lt_of_lt_of_le (shl_lt 53 (x + 149) h) (le_trans (pow_mono {i = 53 + (x + 149)} {j = j + 1074} (omega arith)) (le_of_eq (pow-add 2 j 1074)))))

whole_ge : (M x j : ℕ) → 2 ^ 52 ≤ M → j + 1074 ≤ x + 201 → 2 ^ j ≤ M * 2 ^ x * 2 ^ 149 / 2 ^ 1074
whole_ge M x j h l =
    (le-div_iff_mul-le (pow_pos 1074)).1
    (le_trans (le_of_eq (sym (pow-add 2 j 1074)))
    (le_trans (pow_mono {i = j + 1074} {j = 52 + (x + 149)} (omega arith))
    (le_trans (le_of_eq (pow-add 2 52 (x + 149)))
    (le_trans (mul-le-mul_right (2 ^ (x + 149)) h) (le_of_eq (ap (λ (z : ℕ). M * z) (pow-add 2 x 149) ∙ sym (mul_assoc M (2 ^ x) (2 ^ 149))))))))

at_drop : (s : Bool) (M x sh k : ℕ) → size (M * 2 ^ x * 2 ^ 149 / 2 ^ 1074) - 24 ≡ k → x + (149 + sh) ≡ 1074 + k
    → round binary32 s (M * 2 ^ x) (2 ^ 1074) ≡ units binary32 s (closest M (2 ^ sh)) k
at_drop s M x sh k z e =
    let n = M * 2 ^ x * 2 ^ 149 in
    round_is binary32 s (M * 2 ^ x) (2 ^ 1074)
    ∙ ap (λ (k : ℕ). units binary32 s (closest n (2 ^ 1074 * 2 ^ k)) k) z
    ∙ ap (λ (q : ℕ). units binary32 s q k) (closest_same n (2 ^ 1074 * 2 ^ k) M (2 ^ sh) (mul-pos (pow_pos 1074) (pow_pos k)) (pow_pos sh) (pows M x 149 sh 1074 k e))

-- a normal result drops k of its digits
pub round-normal : (s : Bool) (M k : ℕ) → 2 ^ 52 ≤ M → M < 2 ^ 53 → round binary32 s (M * 2 ^ (896 + k)) (2 ^ 1074) ≡ units binary32 s (closest M (2 ^ 29)) k
round-normal s M k l h =
    let w = M * 2 ^ (896 + k) * 2 ^ 149 / 2 ^ 1074 in
    let hi : size w ≤ 24 + k = size-le w (24 + k) (whole-lt M (896 + k) (24 + k) h (omega arith)) in
    let lo : 23 + k < size w = size_gt w (23 + k) (whole_ge M (896 + k) (23 + k) l (omega arith)) in
    at_drop s M (896 + k) 29 k (omega arith) (omega arith)

-- a subnormal one none
pub round-subnormal : (s : Bool) (M x sh : ℕ) → M < 2 ^ 53 → x < 896 → x + sh ≡ 925 → round binary32 s (M * 2 ^ x) (2 ^ 1074) ≡ units binary32 s (closest M (2 ^ sh)) 0
round-subnormal s M x sh h l e =
    let w = M * 2 ^ x * 2 ^ 149 / 2 ^ 1074 in
    let hi : size w ≤ 24 = size-le w 24 (whole-lt M x 24 h (omega arith)) in
    at_drop s M x sh 0 (omega arith) (omega arith)
