-- Where the constants of `sine_ease` come from: the f64 nearest to π, 400921FB54442D18, halved or multiplied in f64, then narrowed to f32. Assumes nothing.
use Rattle.std.specs.Prelude.{◌≡◌, refl, Float}
use Rattle.std.specs.Float.{binary32}
use Rattle.std.specs.Float.Ieee.{of_bits, to_bits, mul, round}
use Rattle.floats.specs.Arithmetic.{◌×ᵈ◌, whole, halfᶠ}
use Rattle.floats.specs.Constants.{f64}
use Rattle.floats.specs.Floats.{narrowed}
use Rattle.math.specs.Curves.{π, π/2, 5ππ}

abbrev π₆₄ : Float
π₆₄ = f64 0x400921fb54442d18

pub record Constants : Type 0 where
  pub pi : to_bits binary32 (narrowed π₆₄) ≡ to_bits binary32 π
  pub half : to_bits binary32 (narrowed (π₆₄ ×ᵈ halfᶠ)) ≡ to_bits binary32 π/2
  pub five : to_bits binary32 (narrowed (whole 5 ×ᵈ π₆₄ ×ᵈ π₆₄)) ≡ to_bits binary32 5ππ

pub constants : Constants
unfolding of_bits to_bits mul round narrowed whole
constants = record { pi = refl; half = refl; five = refl }
