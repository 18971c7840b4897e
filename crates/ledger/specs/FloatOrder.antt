-- IEEE 754's < over all floats: what follows from f < θ where f is not less than e, and that nothing is less than -infinity. Assumes nothing.
use Rattle.std.specs.Prelude.{ℕ, zero, suc, ◌+◌, ◌*◌, ◌≤◌, ◌<◌, Bool, true, false, not, T, Float}
use Rattle.std.proofs.Common.{zero-mul, mul_right_comm, mul-le-mul_right, mul-lt-mul_of_pos_right, lt_of_mul-lt-mul_right, mul-pos, arith, ltb→lt, nltb→le, lt→ltb}
use Rattle.std.specs.Float.{nan, inf, fin}
use Rattle.std.specs.Float.Ieee.{up, down, lt, below, is_nan}
use Rattle.std.specs.Float.Ieee.Fits.{down_pos}
use Rattle.std.specs.Float.Ieee.Positive.{first_pos}

-- ---- three: f < θ, and not f < e, so e < θ
cross : (a p b q c r : ℕ) → 0 < q → b * p ≤ a * q → a * r < c * p → b * r < c * q
cross a p b q c r Q h k =
    lt_of_mul-lt-mul_right p
    (omega (arith, mul_right_comm b r p, mul-le-mul_right r h, mul_right_comm a q r, mul-lt-mul_of_pos_right k Q, mul_right_comm c p q))

cross' : (a p b q c r : ℕ) → 0 < q → a * q ≤ b * p → c * p < a * r → c * q < b * r
cross' a p b q c r Q h k =
    lt_of_mul-lt-mul_right p
    (omega (arith, mul_right_comm c q p, mul-lt-mul_of_pos_right k Q, mul_right_comm a r q, mul-le-mul_right r h, mul_right_comm b p r))

pub zero_of : (a q r : ℕ) → 0 < q → a * q ≤ 0 → a * r ≤ 0
zero_of zero q r Q h = omega (arith, zero-mul r)
zero_of (suc a) q r Q h =
    let A : 0 < suc a * q = mul-pos (omega arith) Q in
    absurd (omega arith)

one_of : (a p b q c r : ℕ) → 0 < q → 0 < r → 0 < a * r + c * p → a * q ≤ b * p → 0 < b * r + c * q
one_of zero p b q c r Q R h k =
    let C : 0 < c * q = mul-pos (first_pos c p (omega (arith, zero-mul r))) Q in
    omega arith
one_of (suc a) p b q c r Q R h k =
    let A : 0 < suc a * q = mul-pos (omega arith) Q in
    let B : 0 < b * r = mul-pos (first_pos b p (omega arith)) R in
    omega arith

below_through : (s₁ s₂ s₃ : Bool) (a p b q c r : ℕ) → 0 < p → 0 < q → 0 < r
    → T (below s₁ (a * r) s₃ (c * p)) → T (not (below s₁ (a * q) s₂ (b * p))) → T (below s₂ (b * r) s₃ (c * q))
below_through false false false a p b q c r P Q R h k = lt→ltb (b * r) (c * q) (cross a p b q c r Q (nltb→le (a * q) (b * p) k) (ltb→lt (a * r) (c * p) h))
below_through false true false a p b q c r P Q R h k =
    let C : 0 < c * q = mul-pos (first_pos c p (omega (arith, ltb→lt (a * r) (c * p) h))) Q in
    lt→ltb 0 (b * r + c * q) (omega arith)
below_through false s₂ true a p b q c r P Q R h k = absurd h
below_through true false false a p b q c r P Q R h k =
    let A : a * r ≤ 0 = zero_of a q r Q (omega (arith, nltb→le 0 (a * q + b * p) k)) in
    let B : b * r ≤ 0 = zero_of b p r P (omega (arith, nltb→le 0 (a * q + b * p) k)) in
    let C : 0 < c * q = mul-pos (first_pos c p (omega (arith, ltb→lt 0 (a * r + c * p) h))) Q in
    lt→ltb (b * r) (c * q) (omega arith)
below_through true true false a p b q c r P Q R h k = lt→ltb 0 (b * r + c * q) (one_of a p b q c r Q R (ltb→lt 0 (a * r + c * p) h) (nltb→le (b * p) (a * q) k))
below_through true false true a p b q c r P Q R h k =
    let A : 0 < a * q = mul-pos (first_pos a r (omega (arith, ltb→lt (c * p) (a * r) h))) Q in
    absurd (omega (arith, nltb→le 0 (a * q + b * p) k))
below_through true true true a p b q c r P Q R h k = lt→ltb (c * q) (b * r) (cross' a p b q c r Q (nltb→le (b * p) (a * q) k) (ltb→lt (c * p) (a * r) h))

-- f < θ, and not f < e, so e < θ, unless e is a NaN
pub lt_through : (f e θ : Float) → T (not (is_nan e)) → T (lt f θ) → T (not (lt f e)) → T (lt e θ)
unfolding lt is_nan
lt_through f nan θ N h k = absurd N
lt_through nan (inf t) θ N h k = absurd h
lt_through (inf s) (inf t) nan N h k = absurd h
lt_through (inf true) (inf true) (inf u) N h k = h
lt_through (inf true) (inf false) (inf u) N h k = absurd k
lt_through (inf false) (inf t) (inf u) N h k = absurd h
lt_through (inf true) (inf true) (fin u o y) N h k = tt
lt_through (inf true) (inf false) (fin u o y) N h k = absurd k
lt_through (inf false) (inf t) (fin u o y) N h k = absurd h
lt_through (fin s m x) (inf t) nan N h k = absurd h
lt_through (fin s m x) (inf true) (inf u) N h k = h
lt_through (fin s m x) (inf false) (inf u) N h k = absurd k
lt_through (fin s m x) (inf true) (fin u o y) N h k = tt
lt_through (fin s m x) (inf false) (fin u o y) N h k = absurd k
lt_through nan (fin t n d) θ N h k = absurd h
lt_through (inf s) (fin t n d) nan N h k = absurd h
lt_through (inf true) (fin t n d) (inf u) N h k = absurd k
lt_through (inf false) (fin t n d) (inf u) N h k = absurd h
lt_through (inf true) (fin t n d) (fin u o y) N h k = absurd k
lt_through (inf false) (fin t n d) (fin u o y) N h k = absurd h
lt_through (fin s m x) (fin t n d) nan N h k = absurd h
lt_through (fin s m x) (fin t n d) (inf u) N h k = h
lt_through (fin s m x) (fin t n d) (fin u o y) N h k =
    below_through s t u (m * up x) (down x) (n * up d) (down d) (o * up y) (down y) (down_pos x) (down_pos d) (down_pos y) h k

-- nothing lies before -infinity
pub not-before-all : (x : Float) → T (not (lt x (inf true)))
unfolding lt
not-before-all nan = tt
not-before-all (inf true) = tt
not-before-all (inf false) = tt
not-before-all (fin s m e) = tt
