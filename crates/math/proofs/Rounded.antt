-- One f32 rounding, in units of the smallest f32 value: it moves a fraction by at most half of the last place that it keeps. Then a product and a difference, each rounded once. Assumes nothing.
use mathlib.Core.Path.{◌≡◌, refl, sym, ap, ◌∙◌, subst}
use mathlib.Core.Bool.{Bool, true, false, not, cond, beq, ◌&&◌}
use Prim.Native.Nat.{ℕ, ◌+◌, ◌-◌, ◌*◌, ◌/◌, ◌%◌, ◌^◌, ◌≤◌, ◌<◌}
use native.Mathlib.Nat.{le_trans, le_of_eq, lt_of_lt_of_le, mul_comm, mul-one, mul-mul-mul_comm, mul-pos, mul-le-mul_left, mul-le-mul_right, le_of_mul-le-mul_right, mul-lt-mul_of_pos_right, lt_of_mul-lt-mul_right, mod-lt, div-add-mod', div-lt_iff_lt-mul}
use native.Mathlib.Omega.{arith}
use lib.Dec.{T, ltb, lt→ltb}
use lib.Pow.{pow-add, pow_pos, pow_mono}
use lib.Ieee.{Float, nan, inf, fin, Format, binary32, up, down, size, unlike, round, sum, add, mul}
use lib.Ieee.Digits.{size-le}
use lib.Ieee.Exact.{HasValue, units_val}
use lib.Ieee.Fits.{down_pos, round_is}
use lib.Ieee.Nearest.{closest}
use lib.Ieee.Order.{drop, kept}
use lib.Ieee.Scale.{round_same}
use Rattle.math.specs.Addition.{add_at}
use Rattle.floats.specs.Closest.{gap, closest_is}

-- a and b are at most e apart
abbrev pub Near : ℕ → ℕ → ℕ → Type 0
Near a b e = (a ≤ b + e) × (b ≤ a + e)

-- the nearest whole number is at most a half away
closest_near : (a u : ℕ) → 0 < u → Near (2 * (closest a u * u)) (2 * a) u
closest_near a u p = half (closest a u * u) (a / u * u) ((a / u + 1) * u) (a % u) (div-add-mod' a u) (mod-lt a p) (next (a / u)) ((closest_is a u p).near (a / u)) ((closest_is a u p).near (a / u + 1))
  where
    next : (q : ℕ) → (q + 1) * u ≡ q * u + u
    next q = omega arith

    half : (c y z r : ℕ) → y + r ≡ a → r < u → z ≡ y + u → gap a c ≤ gap a y → gap a c ≤ gap a z → Near (2 * c) (2 * a) u
    half c y z r e l n f g = (omega arith, omega arith)

-- ---- in units of the smallest value
abbrev pub unit : ℕ
unit = 2 ^ 149

-- z has the sign s and is w units, and w is at most h from v / M
pub record Out (z : Float) (s : Bool) (M v h : ℕ) : Type 0 where
  pub w : ℕ
  pub is : HasValue z s w unit
  pub near : Near (w * M) v (h * M)

-- below c, which is 2 ^ (24 + k) units, the last of the 24 places is at most 2 ^ k units, and half of it is h
pub record Half (c h : ℕ) : Type 0 where
  pub k : ℕ
  pub finite : k ≤ 251
  pub two : 2 ^ k ≡ 2 * h
  pub top : 2 ^ (24 + k) ≡ c * unit

-- a fraction a / (unit * M) below c moves by at most h
rounded : (s : Bool) (a M c h : ℕ) → Half c h → 0 < M → a < c * unit * M → Out (round binary32 s a (unit * M)) s M a h
rounded s a M c h p P l =
    let k = p.k in
    let d = unit * M in
    let n = a * unit in
    let D : 0 < d = mul-pos (pow_pos 149) P in
    let n< : n < 2 ^ (24 + k) * d = subst (λ (z : ℕ). n < z * d) (sym p.top) (wide a unit M c (mul-lt-mul_of_pos_right l (pow_pos 149))) in
    let j = drop 24 n d in
    let q = kept 24 n d in
    let jk : 2 ^ j ≤ 2 ^ k = pow_mono (spare (size (n / d)) k (size-le (n / d) (24 + k) ((div-lt_iff_lt-mul D).1 n<))) in
    let e : Near (2 * (q * 2 ^ j * d)) (2 * n) (2 ^ k * d) = moved q d (2 ^ j) n (2 ^ k) (mul-le-mul_left d jk) (closest_near n (d * 2 ^ j) (mul-pos D (pow_pos j))) in
    let w< : q * 2 ^ j < 2 ^ 277 = lt_of_lt_of_le (lt_of_mul-lt-mul_right d (twice (q * 2 ^ j) d n (2 ^ k) (2 ^ (24 + k)) n< e.0 (mul-le-mul_right d (pow_mono (more k))))) (le_trans (le_of_eq (sym (pow-add 2 (24 + k) 1))) (pow_mono (room k p.finite))) in
    record {
      w = q * 2 ^ j;
      is = subst (λ (z : Float). HasValue z s (q * 2 ^ j) unit) (sym (round_is binary32 s a d)) (units_val binary32 s q j w<);
      near = cancel (q * 2 ^ j) a unit M (2 ^ k) p.two (pow_pos 149) e;
    }
  where
    wide : (a U M c : ℕ) → a * U < c * U * M * U → a * U < c * U * (U * M)
    wide a U M c h = omega arith

    spare : (z k : ℕ) → z ≤ 24 + k → z - 24 ≤ k
    spare z k h = omega arith

    more : (k : ℕ) → k ≤ 24 + k
    more k = omega arith

    room : (k : ℕ) → k ≤ 251 → 24 + k + 1 ≤ 277
    room k h = omega arith

    moved : (q d j n k : ℕ) → d * j ≤ d * k → Near (2 * (q * (d * j))) (2 * n) (d * j) → Near (2 * (q * j * d)) (2 * n) (k * d)
    moved q d j n k l p = (omega arith, omega arith)

    twice : (w d n K L : ℕ) → n < L * d → 2 * (w * d) ≤ 2 * n + K * d → K * d ≤ L * d → w * d < L * 2 * d
    twice w d n K L h e z = omega arith

    cancel : (w a U M K : ℕ) → K ≡ 2 * h → 0 < U → Near (2 * (w * (U * M))) (2 * (a * U)) (K * (U * M)) → Near (w * M) a (h * M)
    cancel w a U M K e P p =
        let z : K * (U * M) ≡ 2 * h * (U * M) = ap (λ (x : ℕ). x * (U * M)) e in
        let x : w * M * U ≤ (a + h * M) * U = omega arith in
        let y : a * U ≤ (w * M + h * M) * U = omega arith in
        (le_of_mul-le-mul_right x P, le_of_mul-le-mul_right y P)

-- ---- what an operation hands to `round`, by any fractions that its operands equal
mul_at : (f : Format) (x y : Float) (s t : Bool) (a b c : ℕ) → 0 < c → HasValue x s a c → HasValue y t b c → mul f x y ≡ round f (unlike s t) (a * b) (c * c)
unfolding mul
mul_at f nan y s t a b c C p q = absurd p
mul_at f (inf u) y s t a b c C p q = absurd p
mul_at f (fin u m e) nan s t a b c C p q = absurd q
mul_at f (fin u m e) (inf v) s t a b c C p q = absurd q
mul_at f (fin u m e) (fin v n g) s t a b c C p q =
    ap (λ (z : Bool). round f (unlike z v) (m * up e * (n * up g)) (down e * down g)) p.0
    ∙ ap (λ (z : Bool). round f (unlike s z) (m * up e * (n * up g)) (down e * down g)) q.0
    ∙ round_same f (unlike s t) (m * up e * (n * up g)) (down e * down g) (a * b) (c * c) (mul-pos (down_pos e) (down_pos g)) (mul-pos C C)
    (mul-mul-mul_comm (m * up e) (n * up g) c c ∙ ap (λ (z : ℕ). z * (n * up g * c)) p.1 ∙ ap (λ (z : ℕ). a * down e * z) q.1 ∙ mul-mul-mul_comm a (down e) b (down g))

-- of two with unlike signs, the second the larger
pick : (f : Format) (s t : Bool) (a b c : ℕ) → beq s t ≡ false → a < b → sum f s a t b c ≡ round f t (b - a) c
unfolding sum
pick f s t a b c n h =
    ap (λ (z : Bool). cond z (round f s (a + b) c) (cond (ltb a b) (round f t (b - a) c) (round f (s && ltb b a) (a - b) c))) n
    ∙ go (ltb a b) (lt→ltb a b h) (round f (s && ltb b a) (a - b) c)
  where
    go : (z : Bool) → T z → (o : Float) → cond z (round f t (b - a) c) o ≡ round f t (b - a) c
    go true h o = refl
    go false h o = absurd h

-- ---- the two operations, with results below c
module _ (x y : Float) (s t : Bool) (a b c h : ℕ) (m : Half c h) (p : HasValue x s a unit) (q : HasValue y t b unit) where
  pub product : a * b < c * unit * unit → Out (mul binary32 x y) (unlike s t) unit (a * b) h
  product l =
      subst (λ (z : Float). Out z (unlike s t) unit (a * b) h) (sym (mul_at binary32 x y s t a b unit (pow_pos 149) p q))
      (rounded (unlike s t) (a * b) unit c h m (pow_pos 149) l)

  pub difference : beq s t ≡ false → a < b → b - a < c * unit * 1 → Out (add binary32 x y) t 1 (b - a) h
  difference n i l =
      subst (λ (z : Float). Out z t 1 (b - a) h) (sym (add_at binary32 x y s t a b unit (pow_pos 149) p q ∙ pick binary32 s t a b unit n i ∙ ap (round binary32 t (b - a)) (sym (mul-one unit))))
      (rounded t (b - a) 1 c h m (pow_pos 0) l)
