-- The seven roundings of `smooth` in turn, in units of the smallest f32 value: x is X of the U = 2 ^ 149 units of 1, and every result errs by a small multiple of H = 2 ^ 125, where U is 2 ^ 24 of H.
-- The whole errs by at most 4 + 8 + 8 + 8 + 2 + 1 + 1 = 32 of H, which is 2 ^ -19. Assumes nothing.
use mathlib.Core.Path.{◌≡◌, refl, sym, ap, subst}
use mathlib.Core.Bool.{Bool, true, false, not, beq}
use Prim.Native.Nat.{ℕ, ◌+◌, ◌-◌, ◌*◌, ◌^◌, ◌≤◌, ◌<◌}
use native.Mathlib.Nat.{mul-pos, mul-le-mul_left, mul-le-mul_right, mul-lt-mul_of_pos_right, lt_of_mul-lt-mul_right, sub-add_cancel, add_comm}
use native.Mathlib.Omega.{arith}
use lib.Dec.{lit≤}
use lib.Pow.{pow_pos}
use lib.Ieee.{Float, nan, inf, fin, of_bits, neg, sub, mul, add, unlike}
use lib.Ieee.Exact.{HasValue}
use Rattle.floats.specs.Arithmetic.{◌+ˢ◌, ◌-ˢ◌, ◌×ˢ◌, f32}
use Rattle.math.specs.Curves.{smooth}
use Rattle.math.proofs.Rounded.{Near, unit, Half, product, difference}

-- ---- in whole numbers: what a step makes of a result D that, in M-ths, is r - l but for k
module _ (D E X U M l r h k : ℕ) (P : 0 < M) (small : 4 * k < U) (q : Near (D * M + l) r (k * M)) where
  -- a quarter of a unit is left below a bound c, so that the error does not reach it
  below : (c : ℕ) → 4 * r + U * M ≤ 4 * (c * U * M + l) → D < c * U
  below c s =
      let z : 4 * k * M < U * M = mul-lt-mul_of_pos_right small P in
      let g : D * M < c * U * M = omega arith in
      lt_of_mul-lt-mul_right M g

  times_below : (c : ℕ) → X ≤ U → 0 < U → 4 * (r * X) + U * (M * U) ≤ 4 * (c * U * (M * U) + l * X) → D * X < c * U * U
  times_below c i u s =
      let z : 4 * k * (M * U) < U * (M * U) = mul-lt-mul_of_pos_right small (mul-pos P u) in
      let v : k * M * X ≤ k * M * U = mul-le-mul_left (k * M) i in
      let w : (D * M + l) * X ≤ (r + k * M) * X = mul-le-mul_right X q.0 in
      let g : D * X * M < c * U * U * M = omega arith in
      lt_of_mul-lt-mul_right M g

  -- E is D * X / U but for h: then E, in M * U-ths, is (r - l) * X but for h + k
  times_near : X ≤ U → Near (E * U) (D * X) (h * U) → Near (E * (M * U) + l * X) (r * X) ((h + k) * (M * U))
  times_near i p =
      let p0 : E * U * M ≤ (D * X + h * U) * M = mul-le-mul_right M p.0 in
      let p1 : D * X * M ≤ (E * U + h * U) * M = mul-le-mul_right M p.1 in
      let q0 : (D * M + l) * X ≤ (r + k * M) * X = mul-le-mul_right X q.0 in
      let q1 : r * X ≤ (D * M + l + k * M) * X = mul-le-mul_right X q.1 in
      let g : k * M * X ≤ k * M * U = mul-le-mul_left (k * M) i in
      (omega arith, omega arith)

  -- E is c * U - D but for h: then E, in M-ths, is c * U * M - (r - l) but for h + k
  from_near : (c : ℕ) → D < c * U → Near (E * 1) (c * U - D) (h * 1) → Near (E * M + r) (c * U * M + l) ((h + k) * M)
  from_near c i p =
      let x : E + D ≤ c * U + h = omega arith in
      let y : c * U ≤ E + D + h = omega arith in
      let p0 : (E + D) * M ≤ (c * U + h) * M = mul-le-mul_right M x in
      let p1 : c * U * M ≤ (E + D + h) * M = mul-le-mul_right M y in
      (omega arith, omega arith)

-- ---- on floats: z is D units with the sign s, and D, in M-ths, is r - l but for k
pub record At (z : Float) (s : Bool) (M l r k : ℕ) : Type 0 where
  pub D : ℕ
  pub is : HasValue z s D unit
  pub near : Near (D * M + l) r (k * M)

module _ (z : Float) (s : Bool) (M l r k c h : ℕ) (P : 0 < M) (small : 4 * k < unit) (a : At z s M l r k) (m : Half c h) where
  -- z * x, below c
  times : (x : Float) (X : ℕ) → HasValue x false X unit → X ≤ unit → 4 * (r * X) + unit * (M * unit) ≤ 4 * (c * unit * (M * unit) + l * X) → At (z ×ˢ x) (unlike s false) (M * unit) (l * X) (r * X) (h + k)
  times x X v i b =
      let o = product z x s false a.D X c h m a.is v (times_below a.D 0 X unit M l r h k P small a.near c i (pow_pos 149) b) in
      record { D = o.w; is = o.is; near = times_near a.D o.w X unit M l r h k P small a.near i o.near }

  -- z + y, where y is n, of the other sign and more than z, below c
  from : (y : Float) (t : Bool) (n : ℕ) → HasValue y t (n * unit) unit → beq s t ≡ false → n < c → 4 * r + unit * M ≤ 4 * (n * unit * M + l) → At (z +ˢ y) t M r (n * unit * M + l) (h + k)
  from y t n v o i b =
      let e = below a.D 0 0 unit M l r h k P small a.near n b in
      let d = difference z y s t a.D (n * unit) c h m a.is v o e (less a.D (n * unit) (c * unit) (mul-lt-mul_of_pos_right i (pow_pos 149))) in
      record { D = d.w; is = d.is; near = from_near a.D d.w 0 unit M l r h k P small a.near n e d.near }
    where
      less : (d a b : ℕ) → a < b → a - d < b * 1
      less d a b h = omega arith

-- ---- the constants
six : HasValue (f32 0x40c00000) false (6 * unit) unit
unfolding of_bits
six = (refl, refl)

minus_fifteen : HasValue (neg (f32 0x41700000)) true (15 * unit) unit
unfolding of_bits neg
minus_fifteen = (refl, refl)

ten : HasValue (f32 0x41200000) false (10 * unit) unit
unfolding of_bits
ten = (refl, refl)

-- ---- The bounds: 6x below 15, (15 - 6x)x below 16 and below 10, and 10 - 15x + 6x^2 times x, x^2 and x^3 below 4, 2 and 2, each by a quarter. At U = X + y no coefficient is negative.
abbrev six_x : ℕ → ℕ → ℕ
six_x X U = X * (6 * U)

abbrev fifteen : ℕ → ℕ
fifteen U = 15 * U * U + 0

abbrev ten_and : ℕ → ℕ → ℕ
ten_and X U = 10 * U * (U * U) + six_x X U * X

at_sum : (X U : ℕ) → X ≤ U → (C : ℕ → Type 0) → ((y : ℕ) → C (X + y)) → C U
at_sum X U h C f = let e : X + (U - X) ≡ U = omega arith in subst C e (f (U - X))

module _ (X U : ℕ) (i : X ≤ U) where
  bound_b : 4 * six_x X U + U * U ≤ 4 * (15 * U * U + 0)
  bound_b = at_sum X U i (λ (u : ℕ). 4 * six_x X u + u * u ≤ 4 * (15 * u * u + 0)) (λ y. omega arith)

  bound_c : (n : ℕ) → 10 ≤ n → 4 * (fifteen U * X) + U * (U * U) ≤ 4 * (n * U * (U * U) + six_x X U * X)
  bound_c n h =
      let e : 4 * (fifteen U * X) + U * (U * U) ≤ 4 * (10 * U * (U * U) + six_x X U * X) = at_sum X U i (λ (u : ℕ). 4 * (fifteen u * X) + u * (u * u) ≤ 4 * (10 * u * (u * u) + six_x X u * X)) (λ y. omega arith) in
      let g : 10 * (U * (U * U)) ≤ n * (U * (U * U)) = mul-le-mul_right (U * (U * U)) h in
      omega arith

  bound_e : 4 * (ten_and X U * X) + U * (U * U * U) ≤ 4 * (4 * U * (U * U * U) + fifteen U * X * X)
  bound_e = at_sum X U i (λ (u : ℕ). 4 * (ten_and X u * X) + u * (u * u * u) ≤ 4 * (4 * u * (u * u * u) + fifteen u * X * X)) (λ y. omega arith)

  bound_f : 4 * (ten_and X U * X * X) + U * (U * U * U * U) ≤ 4 * (2 * U * (U * U * U * U) + fifteen U * X * X * X)
  bound_f = at_sum X U i (λ (u : ℕ). 4 * (ten_and X u * X * X) + u * (u * u * u * u) ≤ 4 * (2 * u * (u * u * u * u) + fifteen u * X * X * X)) (λ y. omega arith)

  bound_g : 4 * (ten_and X U * X * X * X) + U * (U * U * U * U * U) ≤ 4 * (2 * U * (U * U * U * U * U) + fifteen U * X * X * X * X)
  bound_g = at_sum X U i (λ (u : ℕ). 4 * (ten_and X u * X * X * X) + u * (u * u * u * u * u) ≤ 4 * (2 * u * (u * u * u * u * u) + fifteen u * X * X * X * X)) (λ y. omega arith)

-- ---- `smooth`, by its operations
abbrev H : ℕ
H = 2 ^ 125

below-16 : Half 16 (8 * H)
below-16 = record { k = 129; finite = lit≤ tt; two = refl; top = refl }

below-8 : Half 8 (4 * H)
below-8 = record { k = 128; finite = lit≤ tt; two = refl; top = refl }

below-4 : Half 4 (2 * H)
below-4 = record { k = 127; finite = lit≤ tt; two = refl; top = refl }

below-2 : Half 2 H
below-2 = record { k = 126; finite = lit≤ tt; two = refl; top = refl }

module _ (x : Float) (X : ℕ) (i : X ≤ unit) (v : HasValue x false X unit) where
  abbrev U : ℕ
  U = unit

  pos-1 : 0 < U
  pos-1 = pow_pos 149

  pos-2 : 0 < U * U
  pos-2 = mul-pos pos-1 pos-1

  pos-3 : 0 < U * U * U
  pos-3 = mul-pos pos-2 pos-1

  pos-4 : 0 < U * U * U * U
  pos-4 = mul-pos pos-3 pos-1

  -- x * 6
  a : At (x ×ˢ f32 0x40c00000) false U 0 (six_x X U) (4 * H)
  a =
      let o = product x (f32 0x40c00000) false false X (6 * U) 8 (4 * H) below-8 v six (range X U i pos-1) in
      record { D = o.w; is = o.is; near = plain (o.w * U) (six_x X U) (4 * H * U) o.near }
    where
      range : (X U : ℕ) → X ≤ U → 0 < U → X * (6 * U) < 8 * U * U
      range X U h p =
          let z : X * U ≤ U * U = mul-le-mul_right U h in
          let w : 0 < U * U = mul-pos p p in
          omega arith

      plain : (a b e : ℕ) → Near a b e → Near (a + 0) b e
      plain a b e p = (omega arith, omega arith)

  -- .. - 15
  b : At (x ×ˢ f32 0x40c00000 -ˢ f32 0x41700000) true U (six_x X U) (fifteen U) (8 * H + 4 * H)
  unfolding sub
  b = from (x ×ˢ f32 0x40c00000) false U 0 (six_x X U) (4 * H) 16 (8 * H) pos-1 (lit≤ tt) a below-16 (neg (f32 0x41700000)) true 15 minus_fifteen refl (lit≤ tt) (bound_b X U i)

  -- .. * x
  c : At ((x ×ˢ f32 0x40c00000 -ˢ f32 0x41700000) ×ˢ x) true (U * U) (six_x X U * X) (fifteen U * X) (8 * H + (8 * H + 4 * H))
  c = times (x ×ˢ f32 0x40c00000 -ˢ f32 0x41700000) true U (six_x X U) (fifteen U) (8 * H + 4 * H) 16 (8 * H) pos-1 (lit≤ tt) b below-16 x X v i (bound_c X U i 16 (lit≤ tt))

  -- .. + 10
  abbrev y : Float
  y = (x ×ˢ f32 0x40c00000 -ˢ f32 0x41700000) ×ˢ x +ˢ f32 0x41200000

  d : At y false (U * U) (fifteen U * X) (ten_and X U) (28 * H)
  d = from ((x ×ˢ f32 0x40c00000 -ˢ f32 0x41700000) ×ˢ x) true (U * U) (six_x X U * X) (fifteen U * X) (8 * H + (8 * H + 4 * H)) 16 (8 * H) pos-2 (lit≤ tt) c below-16 (f32 0x41200000) false 10 ten refl (lit≤ tt) (bound_c X U i 10 (lit≤ tt))

  -- .. * x * x * x
  e : At (y ×ˢ x) false (U * U * U) (fifteen U * X * X) (ten_and X U * X) (30 * H)
  e = times y false (U * U) (fifteen U * X) (ten_and X U) (28 * H) 4 (2 * H) pos-2 (lit≤ tt) d below-4 x X v i (bound_e X U i)

  f : At (y ×ˢ x ×ˢ x) false (U * U * U * U) (fifteen U * X * X * X) (ten_and X U * X * X) (31 * H)
  f = times (y ×ˢ x) false (U * U * U) (fifteen U * X * X) (ten_and X U * X) (30 * H) 2 H pos-3 (lit≤ tt) e below-2 x X v i (bound_f X U i)

  pub smooth-at : At (smooth x) false (U * U * U * U * U) (fifteen U * X * X * X * X) (ten_and X U * X * X * X) (32 * H)
  unfolding smooth
  smooth-at = times (y ×ˢ x ×ˢ x) false (U * U * U * U) (fifteen U * X * X * X) (ten_and X U * X * X) (31 * H) 2 H pos-4 (lit≤ tt) f below-2 x X v i (bound_g X U i)
