-- The bits of `narrowed x` from the fields of x's bits, in the three ways that `narrow_bits` takes. Assumes nothing.
use Rattle.std.proofs.Common.{◌≡◌, ℕ, zero, suc, ◌+◌, ◌-◌, ◌*◌, ◌/◌, ◌%◌, ◌^◌, ◌<◌, ◌≤◌, min, Bool, true, false, cond, not, T, eqb, leb, ◌⊎◌, sym, refl, ap, ◌∙◌, subst, inl, inr, le_trans, lt_of_lt_of_le, le_of_suc-le-suc, lt_irrefl, mod-eq_of_lt, eq-or-lt_of_le, one-mul, arith, eqb→eq, leb→le, pow_pos, pow_mono, shr_lt}
use Prim.Native.Nat.{compare}
use native.Mathlib.Nat.{div-eq_of_lt}
use lib.Dec.{nleb→lt, not_T}
use lib.Pow.{pow-lt, field}
use lib.Ieee.{Float, nan, inf, fin, binary32, binary64, up, down, nearest, odd, round, is_nan, of_fields, of_bits, to_bits, nan_bits}
use lib.Ieee.Fits.{down_pos, nearest-le}
use lib.Ieee.Bits.{cond_no, nan_bits_is}
use lib.Ieee.Exact.{HasValue, odd_sign}
use lib.Ieee.Nearest.{closest, nearest-ge}
use lib.Ieee.Scale.{round_same}
use Rattle.floats.specs.Floats.{narrowed}
use Rattle.floats.specs.Closest.{compare_lt}
use Rattle.floats.specs.Pack.{signed, units_bits}
use Rattle.floats.proofs.Rounding.{round-normal, round-subnormal}

-- ---- `narrowed` sees only the value
narrowed_value : (v : Float) (s : Bool) (a c : ℕ) → 0 < c → HasValue v s a c → narrowed v ≡ round binary32 s a c
unfolding narrowed
narrowed_value nan s a c C h = absurd h
narrowed_value (inf t) s a c C h = absurd h
narrowed_value (fin t m e) s a c C h = round_same binary32 t (m * up e) (down e) a c (down_pos e) C h.1 ∙ ap (λ (t : Bool). round binary32 t a c) h.0

narrowed_odd : (s : Bool) (q k : ℕ) → narrowed (odd 53 s q k 1074) ≡ round binary32 s (q * 2 ^ k) (2 ^ 1074)
narrowed_odd s q k = narrowed_value (odd 53 s q k 1074) s (q * 2 ^ k) (2 ^ 1074) (pow_pos 1074) (odd_sign 53 s q k 1074)

-- ---- bounds of `closest`
closest_small : (a b : ℕ) → a * 2 < b → closest a b ≡ 0
closest_small a b h =
    let l : a < b = omega arith in
    ap (λ (q : ℕ). nearest q (compare (a % b * 2) b)) (div-eq_of_lt l) ∙ ap (λ (r : ℕ). nearest 0 (compare (r * 2) b)) (mod-eq_of_lt l) ∙ ap (nearest 0) (compare_lt (a * 2) b h)

-- at most 24 digits, or 2 ^ 24
pub closest_le : (M sh : ℕ) → M < 2 ^ 53 → 29 ≤ sh → closest M (2 ^ sh) ≤ 2 ^ 24
closest_le M sh h l = le_trans (nearest-le (M / 2 ^ sh) (compare (M % 2 ^ sh * 2) (2 ^ sh))) (shr_lt 24 sh (lt_of_lt_of_le h (pow_mono (more sh l))))
  where
    more : (sh : ℕ) → 29 ≤ sh → 53 ≤ 24 + sh
    more sh l = omega arith

closest_ge : (M : ℕ) → 2 ^ 52 ≤ M → 2 ^ 23 ≤ closest M (2 ^ 29)
closest_ge M h = le_trans (cut M h) (nearest-ge (M / 2 ^ 29) (compare (M % 2 ^ 29 * 2) (2 ^ 29)))
  where
    cut : (M : ℕ) → 2 ^ 52 ≤ M → 2 ^ 23 ≤ M / 2 ^ 29
    cut M h = omega arith

-- ---- a value of binary64 by its digits M and its x
normal : (s : Bool) (M k : ℕ) → 2 ^ 52 ≤ M → M < 2 ^ 53 → to_bits binary32 (narrowed (odd 53 s M (896 + k) 1074)) ≡ signed s + min (k * 2 ^ 23 + closest M (2 ^ 29)) (255 * 2 ^ 23)
normal s M k l h =
    ap (to_bits binary32) (narrowed_odd s M (896 + k) ∙ round-normal s M k l h)
    ∙ units_bits s (closest M (2 ^ 29)) k (closest_le M 29 h (omega arith)) (λ p. closest_ge M l)

subnormal : (s : Bool) (M x sh : ℕ) → M < 2 ^ 53 → x < 896 → x + sh ≡ 925 → to_bits binary32 (narrowed (odd 53 s M x 1074)) ≡ signed s + min (closest M (2 ^ sh)) (255 * 2 ^ 23)
subnormal s M x sh h l e =
    ap (to_bits binary32) (narrowed_odd s M x ∙ round-subnormal s M x sh h l e)
    ∙ units_bits s (closest M (2 ^ sh)) 0 (closest_le M sh h (omega arith)) (λ p. absurd (lt_irrefl 0 p))
    ∙ ap (λ (x : ℕ). signed s + x) (same (closest M (2 ^ sh)))
  where
    same : (q : ℕ) → min (0 * 2 ^ 23 + q) (255 * 2 ^ 23) ≡ min q (255 * 2 ^ 23)
    same q = omega arith

tiny : (s : Bool) (M x : ℕ) → M < 2 ^ 53 → x < 872 → to_bits binary32 (narrowed (odd 53 s M x 1074)) ≡ signed s + min 0 (255 * 2 ^ 23)
tiny s M x h l =
    subnormal s M x (925 - x) h (omega arith) (omega arith)
    ∙ ap (λ (q : ℕ). signed s + min q (255 * 2 ^ 23)) (closest_small M (2 ^ (925 - x)) (lt_of_lt_of_le (twice M h) (pow_mono {i = 54} {j = 925 - x} (omega arith))))
  where
    twice : (M : ℕ) → M < 2 ^ 53 → M * 2 < 2 ^ 54
    twice M h = omega arith

-- ---- by the fields of the pattern
zero_field : (s : Bool) (t : ℕ) → of_fields binary64 s 0 t ≡ odd 53 s t 0 1074
unfolding of_fields
zero_field s t = refl

mid_field : (s : Bool) (t x : ℕ) → suc x < 2047 → of_fields binary64 s (suc x) t ≡ odd 53 s (2 ^ 52 + t) x 1074
unfolding of_fields
mid_field s t x h = cond_no (eqb (suc x) 2047) (cond (eqb t 0) (inf s) nan) (odd 53 s (2 ^ 52 + t) x 1074) (not_T (eqb (suc x) 2047) (λ u. lt_irrefl 2047 (subst (λ (y : ℕ). y < 2047) (eqb→eq (suc x) 2047 u) h)))

top_field : (s : Bool) (t : ℕ) → T (not (is_nan (of_fields binary64 s 2047 t))) → of_fields binary64 s 2047 t ≡ inf s
unfolding of_fields is_nan
top_field s t h = go (eqb t 0) h
  where
    go : (b : Bool) → T (not (is_nan (cond b (inf s) nan))) → cond b (inf s) nan ≡ inf s
    go true h = refl
    go false h = absurd h

inf_bits : (s : Bool) → to_bits binary32 (narrowed (inf s)) ≡ signed s + 255 * 2 ^ 23
unfolding to_bits narrowed
inf_bits s = refl

-- `1 << (926 - x)` in the code
pub unit-is : (x : ℕ) → 872 < x → 1 * 2 ^ (926 - x) % 2 ^ 64 ≡ 2 ^ (926 - x)
unit-is x h = ap (λ (u : ℕ). u % 2 ^ 64) (one-mul (2 ^ (926 - x))) ∙ mod-eq_of_lt (pow-lt {i = 926 - x} {j = 64} (omega arith))

-- above the smallest normal value of binary32
way-normal : (s : Bool) (x t : ℕ) → 896 < x → x < 2048 → t < 2 ^ 52 → T (not (is_nan (of_fields binary64 s x t)))
    → to_bits binary32 (narrowed (of_fields binary64 s x t)) ≡ signed s + min ((x - 897) * 2 ^ 23 + closest (2 ^ 52 + t) (2 ^ 29)) (255 * 2 ^ 23)
way-normal s zero t l h T n = absurd (lt_irrefl 0 (omega arith))
way-normal s (suc x) t l h d n = go (eq-or-lt_of_le (le_of_suc-le-suc h))
  where
    full : (q : ℕ) → 255 * 2 ^ 23 ≡ min ((2047 - 897) * 2 ^ 23 + q) (255 * 2 ^ 23)
    full q = omega arith

    go : (suc x ≡ 2047) ⊎ (suc x < 2047) → to_bits binary32 (narrowed (of_fields binary64 s (suc x) t)) ≡ signed s + min ((suc x - 897) * 2 ^ 23 + closest (2 ^ 52 + t) (2 ^ 29)) (255 * 2 ^ 23)
    go (inl e) =
        ap (λ (v : Float). to_bits binary32 (narrowed v)) (ap (λ (y : ℕ). of_fields binary64 s y t) e ∙ top_field s t (subst (λ (y : ℕ). T (not (is_nan (of_fields binary64 s y t)))) e n))
        ∙ inf_bits s
        ∙ ap (λ (x : ℕ). signed s + x) (full (closest (2 ^ 52 + t) (2 ^ 29)))
        ∙ ap (λ (x : ℕ). signed s + min ((x - 897) * 2 ^ 23 + closest (2 ^ 52 + t) (2 ^ 29)) (255 * 2 ^ 23)) (sym e)
    go (inr p) =
        let k : ℕ = x - 896 in
        let e : x ≡ 896 + k = omega arith in
        let f : k ≡ suc x - 897 = omega arith in
        ap (λ (v : Float). to_bits binary32 (narrowed v)) (mid_field s t x p)
        ∙ ap (λ (x : ℕ). to_bits binary32 (narrowed (odd 53 s (2 ^ 52 + t) x 1074))) e
        ∙ normal s (2 ^ 52 + t) k (omega arith) (omega arith)
        ∙ ap (λ (k : ℕ). signed s + min (k * 2 ^ 23 + closest (2 ^ 52 + t) (2 ^ 29)) (255 * 2 ^ 23)) f

-- below it
way-subnormal : (s : Bool) (x t : ℕ) → 872 < x → x ≤ 896 → t < 2 ^ 52 → to_bits binary32 (narrowed (of_fields binary64 s x t)) ≡ signed s + min (closest (2 ^ 52 + t) (2 ^ (926 - x))) (255 * 2 ^ 23)
way-subnormal s zero t l h d = absurd (lt_irrefl 0 (omega arith))
way-subnormal s (suc x) t l h d =
    ap (λ (v : Float). to_bits binary32 (narrowed v)) (mid_field s t x (omega arith))
    ∙ subnormal s (2 ^ 52 + t) x (926 - suc x) (omega arith) (omega arith) (omega arith)

-- below half of the smallest value
way_zero : (s : Bool) (x t : ℕ) → x ≤ 872 → t < 2 ^ 52 → to_bits binary32 (narrowed (of_fields binary64 s x t)) ≡ signed s + min 0 (255 * 2 ^ 23)
way_zero s zero t h d = ap (λ (v : Float). to_bits binary32 (narrowed v)) (zero_field s t) ∙ tiny s t 0 (omega arith) (omega arith)
way_zero s (suc x) t h d = ap (λ (v : Float). to_bits binary32 (narrowed v)) (mid_field s t x (omega arith)) ∙ tiny s (2 ^ 52 + t) x (omega arith) (omega arith)

-- ---- by the whole pattern, with its sign, field and digits as the code has them
abbrev pub sgn : ℕ → ℕ
sgn b = b / 2 ^ 63 * 2 ^ 31 % 2 ^ 64

abbrev pub fld : ℕ → ℕ
fld b = b / 2 ^ 52 % 2048

abbrev pub wanted : ℕ → ℕ
wanted b = to_bits binary32 (narrowed (of_bits binary64 b))

sign_is : (b : ℕ) → b < 2 ^ 64 → signed (leb (2 ^ 63) b) ≡ sgn b
sign_is b h = go (leb (2 ^ 63) b) (leb→le (2 ^ 63) b) (nleb→lt (2 ^ 63) b)
  where
    up-half : (b : ℕ) → b < 2 ^ 64 → 2 ^ 63 ≤ b → 2 ^ 31 ≡ sgn b
    up-half b h l = omega arith

    low_half : (b : ℕ) → b < 2 ^ 63 → 0 ≡ sgn b
    low_half b l = omega arith

    go : (t : Bool) → (T t → 2 ^ 63 ≤ b) → (T (not t) → b < 2 ^ 63) → signed t ≡ sgn b
    go true l g = up-half b h (l tt)
    go false l g = low_half b (g tt)

split_bits : (b : ℕ) → of_bits binary64 b ≡ of_fields binary64 (leb (2 ^ 63) b) (fld b) (b % 2 ^ 52)
unfolding of_bits
split_bits b = ap (λ (x : ℕ). of_fields binary64 (leb (2 ^ 63) b) x (b % 2 ^ 52)) (field b 11 52)

no_nan : (b : ℕ) → T (not (nan_bits binary64 b)) → T (not (is_nan (of_fields binary64 (leb (2 ^ 63) b) (fld b) (b % 2 ^ 52))))
no_nan b n = subst (λ (v : Float). T (not (is_nan v))) (split_bits b) (subst (λ (t : Bool). T (not t)) (nan_bits_is binary64 b) n)

by_fields : (b w : ℕ) → b < 2 ^ 64 → to_bits binary32 (narrowed (of_fields binary64 (leb (2 ^ 63) b) (fld b) (b % 2 ^ 52))) ≡ signed (leb (2 ^ 63) b) + w → wanted b ≡ sgn b + w
by_fields b w h e = ap (λ (v : Float). to_bits binary32 (narrowed v)) (split_bits b) ∙ e ∙ ap (λ (x : ℕ). x + w) (sign_is b h)

pub bits-normal : (b : ℕ) → b < 2 ^ 64 → T (not (nan_bits binary64 b)) → 896 < fld b → wanted b ≡ sgn b + min ((fld b - 897) * 2 ^ 23 + closest (2 ^ 52 + b % 2 ^ 52) (2 ^ 29)) (255 * 2 ^ 23)
bits-normal b h n l =
    by_fields b (min ((fld b - 897) * 2 ^ 23 + closest (2 ^ 52 + b % 2 ^ 52) (2 ^ 29)) (255 * 2 ^ 23)) h
    (way-normal (leb (2 ^ 63) b) (fld b) (b % 2 ^ 52) l (omega arith) (omega arith) (no_nan b n))

pub bits-subnormal : (b : ℕ) → b < 2 ^ 64 → 872 < fld b → fld b ≤ 896 → wanted b ≡ sgn b + min (closest (2 ^ 52 + b % 2 ^ 52) (1 * 2 ^ (926 - fld b) % 2 ^ 64)) (255 * 2 ^ 23)
bits-subnormal b h l g =
    by_fields b (min (closest (2 ^ 52 + b % 2 ^ 52) (2 ^ (926 - fld b))) (255 * 2 ^ 23)) h
    (way-subnormal (leb (2 ^ 63) b) (fld b) (b % 2 ^ 52) l g (omega arith))
    ∙ ap (λ (u : ℕ). sgn b + min (closest (2 ^ 52 + b % 2 ^ 52) u) (255 * 2 ^ 23)) (sym (unit-is (fld b) l))

pub bits_zero : (b : ℕ) → b < 2 ^ 64 → fld b ≤ 872 → wanted b ≡ sgn b + min 0 (255 * 2 ^ 23)
bits_zero b h l = by_fields b (min 0 (255 * 2 ^ 23)) h (way_zero (leb (2 ^ 63) b) (fld b) (b % 2 ^ 52) l (omega arith))
