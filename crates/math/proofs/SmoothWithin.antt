-- The claims of specs/SmoothError.antt: from units of the smallest f32 value to the values' own fractions, then every phase by its cases. Assumes nothing.
use mathlib.Core.Path.{◌≡◌, refl, sym, ap, ◌∙◌, subst}
use mathlib.Core.Logic.{◌⊎◌, inl, inr}
use mathlib.Core.Bool.{Bool, true, false, ◌&&◌, ◌||◌}
use Prim.Native.Nat.{ℕ, zero, suc, ◌+◌, ◌-◌, ◌*◌, ◌^◌, ◌≤◌, ◌<◌}
use native.Mathlib.Nat.{le_of_eq, le_of_lt, le_trans, mul-pos, mul_comm, mul_assoc, mul_right_comm, mul-mul-mul_comm, mul-sub, add-mul, mul-le-mul_right, le_of_mul-le-mul_right, zero-mul, zero-lt-suc, pow-zero, pow-suc, one-mul, two-pow-succ}
use native.Mathlib.Omega.{arith}
use lib.Dec.{T, ltb, eqb, ltb→lt, eqb→eq, le→leb, lit≤}
use lib.IntN.{ℤ, pos, negsuc}
use lib.Pow.{pow-add, pow_pos}
use lib.Ieee.{Float, nan, inf, fin, binary32, up, down, le, fits, round}
use lib.Ieee.Exact.{HasValue}
use lib.Ieee.Fits.{and_l, and_r, up_pos, down_pos}
use Rattle.floats.specs.Arithmetic.{zeroᶠ, halfᶠ, oneᶠ}
use Rattle.floats.specs.Closest.{gap}
use Rattle.floats.specs.Scaled.{shape}
use Rattle.math.specs.Curves.{smooth}
use Rattle.math.specs.SmoothError.{phase, polynomial, error, Within, Exact, Claims}
use Rattle.math.proofs.Rounded.{Near, unit}
use Rattle.math.proofs.Steps.{At, smooth-at}

-- ---- powers as products
two : (p : ℕ) → p ^ 2 ≡ p * p
two p = pow-suc p 1 ∙ ap (λ (z : ℕ). z * p) (pow-suc p 0 ∙ ap (λ (z : ℕ). z * p) (pow-zero p) ∙ one-mul p)

three : (p : ℕ) → p ^ 3 ≡ p * p * p
three p = pow-suc p 2 ∙ ap (λ (z : ℕ). z * p) (two p)

four : (p : ℕ) → p ^ 4 ≡ p * p * p * p
four p = pow-suc p 3 ∙ ap (λ (z : ℕ). z * p) (three p)

five : (p : ℕ) → p ^ 5 ≡ p * p * p * p * p
five p = pow-suc p 4 ∙ ap (λ (z : ℕ). z * p) (four p)

mul_pow : (a b n : ℕ) → (a * b) ^ n ≡ a ^ n * b ^ n
mul_pow a b zero = rw (pow-zero (a * b), pow-zero a, pow-zero b) (refl)
mul_pow a b (suc n) = pow-suc (a * b) n ∙ ap (λ (z : ℕ). z * (a * b)) (mul_pow a b n) ∙ mul-mul-mul_comm (a ^ n) (b ^ n) a b ∙ rw (pow-suc a n, pow-suc b n)

sub-mul : (a b c : ℕ) → (a - b) * c ≡ a * c - b * c
sub-mul a b c = mul_comm (a - b) c ∙ mul-sub c a b ∙ rw (mul_comm c a, mul_comm c b)

gap-mul : (a b c : ℕ) → gap (a * c) (b * c) ≡ gap a b * c
gap-mul a b c = rw (← sub-mul a b c, ← sub-mul b a c, add-mul (a - b) (b - a) c)

-- ---- `polynomial` is homogeneous, and cuts nothing off
scale : (p q c : ℕ) → polynomial (p * c) (q * c) ≡ polynomial p q * c ^ 5
scale p q c =
    rw (mul_pow p c 5, mul_pow p c 3, mul_pow q c 2, mul_pow p c 4)
    (atoms (p ^ 5) (p ^ 4) (p ^ 3) (q ^ 2) (c ^ 5) (c ^ 4) (c ^ 3) (c ^ 2) (sym (pow-add c 3 2)) (sym (pow-suc c 4)))
  where
    left : (P5 P3 Q2 C3 C2 : ℕ) → 6 * (P5 * (C3 * C2)) + 10 * (P3 * C3 * (Q2 * C2)) ≡ (6 * P5 + 10 * (P3 * Q2)) * (C3 * C2)
    left P5 P3 Q2 C3 C2 = omega arith

    right : (P4 C4 : ℕ) → 15 * (P4 * C4 * (q * c)) ≡ 15 * (P4 * q) * (C4 * c)
    right P4 C4 = omega arith

    atoms : (P5 P4 P3 Q2 C5 C4 C3 C2 : ℕ) → C3 * C2 ≡ C5 → C4 * c ≡ C5 → 6 * (P5 * C5) + 10 * (P3 * C3 * (Q2 * C2)) - 15 * (P4 * C4 * (q * c)) ≡ (6 * P5 + 10 * (P3 * Q2) - 15 * (P4 * q)) * C5
    atoms P5 P4 P3 Q2 C5 C4 C3 C2 e f =
        ap (λ (z : ℕ). 6 * (P5 * z) + 10 * (P3 * C3 * (Q2 * C2)) - 15 * (P4 * C4 * (q * c))) (sym e)
        ∙ ap (λ (z : ℕ). z - 15 * (P4 * C4 * (q * c))) (left P5 P3 Q2 C3 C2)
        ∙ ap (λ (z : ℕ). (6 * P5 + 10 * (P3 * Q2)) * (C3 * C2) - z) (right P4 C4)
        ∙ ap (λ (z : ℕ). (6 * P5 + 10 * (P3 * Q2)) * z - 15 * (P4 * q) * (C4 * c)) e
        ∙ ap (λ (z : ℕ). (6 * P5 + 10 * (P3 * Q2)) * C5 - 15 * (P4 * q) * z) f
        ∙ sym (sub-mul (6 * P5 + 10 * (P3 * Q2)) (15 * (P4 * q)) C5)

same-polynomial : (p q X U : ℕ) → p * U ≡ X * q → polynomial p q * U ^ 5 ≡ polynomial X U * q ^ 5
same-polynomial p q X U e = sym (scale p q U) ∙ ap (λ (z : ℕ). polynomial z (q * U)) e ∙ ap (polynomial (X * q)) (mul_comm q U) ∙ scale X U q

nothing-cut : (p q : ℕ) → p ≤ q → 15 * (p ^ 4 * q) ≤ 6 * p ^ 5 + 10 * (p ^ 3 * q ^ 2)
nothing-cut p q h = rw (four p, five p, three p, two q) (let e : p + (q - p) ≡ q = omega arith in subst (λ (u : ℕ). 15 * (p * p * p * p * u) ≤ 6 * (p * p * p * p * p) + 10 * (p * p * p * (u * u))) e (sums (q - p)))
  where
    sums : (y : ℕ) → 15 * (p * p * p * p * (p + y)) ≤ 6 * (p * p * p * p * p) + 10 * (p * p * p * ((p + y) * (p + y)))
    sums y = omega arith

-- ---- from units to fractions. 32 * H is 1 / 2 ^ 19 of U units
in-units : (G X U H : ℕ) → 0 < U → X ≤ U → U ≡ 16777216 * H → Near (G * (U * U * U * U * U) + (15 * U * U + 0) * X * X * X * X) ((10 * U * (U * U) + X * (6 * U) * X) * X * X * X) (32 * H * (U * U * U * U * U))
    → 2 ^ 19 * gap (G * U ^ 4) (polynomial X U) ≤ U ^ 5
in-units G X U H u i e n =
    let lo = le_of_mul-le-mul_right (lower n.0) u in
    let hi = le_of_mul-le-mul_right (upper n.1) u in
    apart (G * U ^ 4) (15 * (X ^ 4 * U)) (6 * X ^ 5 + 10 * (X ^ 3 * U ^ 2)) (U ^ 5) (nothing-cut X U i) (rw (five U, four U, five X, four X, three X, two U) lo) (rw (five U, four U, five X, four X, three X, two U) hi)
  where
    -- 2 ^ 19 * 32 * H * U ^ 5 is U ^ 6
    whole : 524288 * (32 * H * (U * U * U * U * U)) ≡ U * U * U * U * U * U
    whole = let w : U * (U * U * U * U * U) ≡ 16777216 * H * (U * U * U * U * U) = ap (λ (z : ℕ). z * (U * U * U * U * U)) e in omega arith

    lower : G * (U * U * U * U * U) + (15 * U * U + 0) * X * X * X * X ≤ (10 * U * (U * U) + X * (6 * U) * X) * X * X * X + 32 * H * (U * U * U * U * U)
        → 524288 * (G * (U * U * U * U) + 15 * (X * X * X * X * U)) * U ≤ (524288 * (6 * (X * X * X * X * X) + 10 * (X * X * X * (U * U))) + U * U * U * U * U) * U
    lower h = let w = whole in omega arith

    upper : (10 * U * (U * U) + X * (6 * U) * X) * X * X * X ≤ G * (U * U * U * U * U) + (15 * U * U + 0) * X * X * X * X + 32 * H * (U * U * U * U * U)
        → 524288 * (6 * (X * X * X * X * X) + 10 * (X * X * X * (U * U))) * U ≤ (524288 * (G * (U * U * U * U) + 15 * (X * X * X * X * U)) + U * U * U * U * U) * U
    upper h = let w = whole in omega arith

    apart : (g b a u : ℕ) → b ≤ a → 524288 * (g + b) ≤ 524288 * a + u → 524288 * a ≤ 524288 * (g + b) + u → 524288 * gap g (a - b) ≤ u
    apart g b a u h l k = omega arith

-- x is p / q and X / U, y is r / v and G / U
in-fractions : (p q r v X G U : ℕ) → 0 < U → p * U ≡ X * q → r * U ≡ G * v → 2 ^ 19 * gap (G * U ^ 4) (polynomial X U) ≤ U ^ 5 → 2 ^ 19 * error p q false r v ≤ q ^ 5 * v
in-fractions p q r v X G U u px ry h =
    let W = q ^ 5 * v in
    let y : r * q ^ 5 * U ^ 5 ≡ G * U ^ 4 * W = value (q ^ 5) (U ^ 4) (U ^ 5) (pow-suc U 4) in
    let c : polynomial p q * v * U ^ 5 ≡ polynomial X U * W = curve (polynomial p q) (polynomial X U) (U ^ 5) (q ^ 5) (same-polynomial p q X U px) in
    let g : gap (r * q ^ 5) (polynomial p q * v) * U ^ 5 ≡ gap (G * U ^ 4) (polynomial X U) * W = sym (gap-mul (r * q ^ 5) (polynomial p q * v) (U ^ 5)) ∙ rw (y, c) (gap-mul (G * U ^ 4) (polynomial X U) W) in
    le_of_mul-le-mul_right (cross (gap (r * q ^ 5) (polynomial p q * v)) (gap (G * U ^ 4) (polynomial X U)) (U ^ 5) W g (mul-le-mul_right W h)) (power u)
  where
    value : (Q U4 U5 : ℕ) → U5 ≡ U4 * U → r * Q * U5 ≡ G * U4 * (Q * v)
    value Q U4 U5 e = ap (λ (z : ℕ). r * Q * z) e ∙ (let w : r * U * (Q * U4) ≡ G * v * (Q * U4) = ap (λ (z : ℕ). z * (Q * U4)) ry in omega arith)

    curve : (P R U5 Q : ℕ) → P * U5 ≡ R * Q → P * v * U5 ≡ R * (Q * v)
    curve P R U5 Q e = let w : P * U5 * v ≡ R * Q * v = ap (λ (z : ℕ). z * v) e in omega arith

    cross : (a b c w : ℕ) → a * c ≡ b * w → 524288 * b * w ≤ c * w → 524288 * a * c ≤ w * c
    cross a b c w e h = omega arith

    power : 0 < U → 0 < U ^ 5
    power u = rw (five U) (mul-pos (mul-pos (mul-pos (mul-pos u u) u) u) u)

-- ---- what `phase` says
or_split : (a b : Bool) → T (a || b) → T a ⊎ T b
or_split true b t = inl tt
or_split false b t = inr t

lt_or_eq : (a b : ℕ) → T (ltb a b || (eqb a b && true)) → a ≤ b
lt_or_eq a b t = elim (or_split (ltb a b) (eqb a b && true) t) [ inl u ↦ le_of_lt (ltb→lt a b u) | inr u ↦ le_of_eq (eqb→eq a b (and_l (eqb a b) true u)) ]

at_most_one : (m : ℕ) (e : ℤ) → T (le (fin false m e) oneᶠ) → m * up e ≤ down e
unfolding le
at_most_one m e t = plain (m * up e) (down e) (lt_or_eq (m * up e * 1) (1 * 1 * down e) t)
  where
    plain : (a d : ℕ) → a * 1 ≤ 1 * 1 * d → a ≤ d
    plain a d h = omega arith

-- of the values with a negative sign only -0 is a phase
only_zero : (m : ℕ) (e : ℤ) → T (le zeroᶠ (fin true m e)) → m * up e * 1 ≡ 0
unfolding le
only_zero m e t = sym (eqb→eq (0 * 1 * down e) (m * up e * 1) (and_l (eqb (0 * 1 * down e) (m * up e * 1)) (eqb (0 * 1 * down e) 0) t)) ∙ zero-mul (down e)

no_nan : T (le zeroᶠ nan) → ⊥
unfolding le
no_nan t = t

no_infinity : (s : Bool) → T (le zeroᶠ (inf s)) → T (le (inf s) oneᶠ) → ⊥
unfolding le
no_infinity true t u = t
no_infinity false t u = u

-- ---- every phase
not_negative : (m : ℕ) (e : ℤ) (X : ℕ) (y : Float) → m * up e * unit ≡ X * down e → X ≤ unit
    → At y false (unit * unit * unit * unit * unit) ((15 * unit * unit + 0) * X * X * X * X) ((10 * unit * (unit * unit) + X * (6 * unit) * X) * X * X * X) (32 * 2 ^ 125) → Within 19 (fin false m e) y
not_negative m e X nan p i a = absurd a.is
not_negative m e X (inf t) p i a = absurd a.is
not_negative m e X (fin t n d) p i a =
    subst (λ (t : Bool). 2 ^ 19 * error (m * up e) (down e) t (n * up d) (down d) ≤ down e ^ 5 * down d) (sym a.is.0)
    (in-fractions (m * up e) (down e) (n * up d) (down d) X a.D unit (pow_pos 149) p a.is.1 (in-units a.D X unit (2 ^ 125) (pow_pos 149) i refl a.near))

-- -0 has one form
minus_zero : (e : ℤ) → T (fits binary32 (fin true zero e)) → pos 0 ≡ e
unfolding fits
minus_zero e t = exponent e (eqb→eq (up e * down e) 1 t)
  where
    twice : (a b : ℕ) → a ≡ b + b → a * 1 ≡ 1 → ⊥
    twice a b e h = omega arith

    twice' : (a b : ℕ) → a ≡ b + b → 1 * a ≡ 1 → ⊥
    twice' a b e h = omega arith

    exponent : (e : ℤ) → up e * down e ≡ 1 → pos 0 ≡ e
    exponent (pos zero) h = refl
    exponent (pos (suc k)) h = absurd (twice (2 ^ suc k) (2 ^ k) (two-pow-succ k) h)
    exponent (negsuc k) h = absurd (twice' (2 ^ suc k) (2 ^ k) (two-pow-succ k) h)

at_minus_zero : Within 19 (fin true 0 (pos 0)) (smooth (fin true 0 (pos 0)))
unfolding smooth round
at_minus_zero = lit≤ tt

within : (x : Float) → T (fits binary32 x) → T (le zeroᶠ x) → T (le x oneᶠ) → Within 19 x (smooth x)
within nan f l h = absurd (no_nan l)
within (inf s) f l h = absurd (no_infinity s l h)
within (fin true zero e) f l h = subst (λ (e : ℤ). Within 19 (fin true zero e) (smooth (fin true zero e))) (minus_zero e f) at_minus_zero
within (fin true (suc m) e) f l h = absurd (zero_size (suc m * up e) (mul-pos (zero-lt-suc m) (up_pos e)) (only_zero (suc m) e l))
  where
    zero_size : (a : ℕ) → 0 < a → a * 1 ≡ 0 → ⊥
    zero_size a h e = omega arith
within (fin false m e) f l h =
    let z = shape binary32 false m e f in
    let X = m * 2 ^ z.j in
    let i = at_most (m * up e) (down e) X unit (down_pos e) z.exact (mul-le-mul_right unit (at_most_one m e h)) in
    not_negative m e X (smooth (fin false m e)) z.exact i (smooth-at (fin false m e) X i (refl, z.exact))
  where
    at_most : (p q X U : ℕ) → 0 < q → p * U ≡ X * q → p * U ≤ q * U → X ≤ U
    at_most p q X U Q e h = let g : X * q ≤ U * q = omega arith in le_of_mul-le-mul_right g Q

-- ---- the claims
exactly : (n m : ℕ) → n * 0 ≤ m
exactly n m = omega arith

at-0 : (smooth zeroᶠ ≡ zeroᶠ) × Exact zeroᶠ zeroᶠ
unfolding smooth round
at-0 = (refl, λ k. exactly (2 ^ k) 1)

at-½ : (smooth halfᶠ ≡ halfᶠ) × Exact halfᶠ halfᶠ
unfolding smooth round
at-½ = (refl, λ k. exactly (2 ^ k) 64)

at_1 : (smooth oneᶠ ≡ oneᶠ) × Exact oneᶠ oneᶠ
unfolding smooth round
at_1 = (refl, λ k. exactly (2 ^ k) 1)

not-20 : Within 20 (fin false 16738457 (negsuc 23)) (smooth (fin false 16738457 (negsuc 23))) → ⊥
unfolding smooth round
not-20 w = absurd (le→leb _ _ w)

pub claims : Claims
claims = record {
  within = λ x f p. within x f (and_l (le zeroᶠ x) (le x oneᶠ) p) (and_r (le zeroᶠ x) (le x oneᶠ) p);
  at-0 = at-0;
  at-½ = at-½;
  at_1 = at_1;
  not-20 = not-20;
  whole = nothing-cut;
}
