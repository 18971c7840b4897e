-- What narrowing is, told without the way it is worked out. IEEE 754-2019, 4.3.1, roundTiesToEven: "the floating-point number nearest to the infinitely precise result shall be delivered; if the two
-- nearest floating-point numbers bracketing an unrepresentable infinitely precise result are equally near, the one with an even least significant digit shall be delivered"; and "an infinitely precise
-- result with magnitude at least b ^ emax * (b - b ^ (1 - p) / 2) shall round to infinity with no change in sign": here 2 ^ 127 * (2 - 2 ^ -24), which is (2 ^ 25 - 1) * 2 ^ 103. The proof is in `specs.NearestProof`.
use Rattle.std.specs.Prelude.{◌≡◌, ℕ, ◌+◌, ◌-◌, ◌*◌, ◌%◌, ◌^◌, ◌<◌, ◌≤◌, Bool, cond, T, ◌⊎◌, ℤ, to_bits, Float}
use Rattle.std.specs.Bool.{beq}
use Rattle.std.specs.Float.{nan, inf, fin, binary32}
use Rattle.std.specs.Float.Ieee.{up, down, fits}
use Rattle.std.specs.Float.Ieee.Scale.{finite}
use Rattle.floats.specs.Floats.{narrowed, negative}
use Rattle.floats.specs.Closest.{gap}

-- |±a - ±b|
abbrev pub distance : Bool → ℕ → Bool → ℕ → ℕ
distance s a t b = cond (beq s t) (gap a b) (a + b)

-- |x - y| ≤ |x - z|, of finite values: both sides are fractions, over down e * down d and down e * down g
abbrev pub NoFarther : Float → Float → Float → Type 0
NoFarther (fin s m e) (fin t n d) (fin w k g) =
    distance s (m * up e * down d) t (n * up d * down e) * down g ≤ distance s (m * up e * down g) w (k * up g * down e) * down d
NoFarther (fin s m e) (fin t n d) nan = ⊥
NoFarther (fin s m e) (fin t n d) (inf w) = ⊥
NoFarther (fin s m e) nan z = ⊥
NoFarther (fin s m e) (inf t) z = ⊥
NoFarther nan y z = ⊥
NoFarther (inf s) y z = ⊥

-- v is the f32 nearest to x, and of two nearest the one with the even last digit
pub record IsNearest (x v : Float) : Type 0 where
  pub held : T (fits binary32 v)
  pub finite_too : T (finite v)
  pub sign : negative v ≡ negative x
  pub near : (y : Float) → T (fits binary32 y) → T (finite y) → NoFarther x v y
  pub even : (y : Float) → T (fits binary32 y) → T (finite y) → NoFarther x y v → (y ≡ v) ⊎ (to_bits binary32 v % 2 ≡ 0)

-- narrowing ± m * 2 ^ e
pub record Narrows (s : Bool) (m : ℕ) (e : ℤ) : Type 0 where
  pub nearest : m * up e < (2 ^ 25 - 1) * 2 ^ 103 * down e → IsNearest (fin s m e) (narrowed (fin s m e))
  pub overflow : (2 ^ 25 - 1) * 2 ^ 103 * down e ≤ m * up e → narrowed (fin s m e) ≡ inf s
