-- How document 01's arithmetic is written in the definitions of every crate. A time is an f64, a sample an f32, and each operation rounds once, to the nearest, ties to even (`lib.Ieee`).
-- ᵈ marks an f64 operation (double precision), ˢ an f32 one (single precision). Comparisons are IEEE 754's: -0 equals +0, and a comparison with a NaN fails.
use Rattle.std.specs.Prelude.{ℕ, Bool, true, false, pos, negsuc, from_bits, Float}
use Rattle.std.specs.Float.{inf, fin, binary32, binary64}
use Rattle.std.specs.Float.Ieee.{add, sub, mul, div, lt, le, eq, round}

infixl 65 ◌+ᵈ◌ ◌-ᵈ◌ ◌+ˢ◌ ◌-ˢ◌
infixl 70 ◌×ᵈ◌ ◌÷ᵈ◌ ◌×ˢ◌ ◌÷ˢ◌
infix 50 ◌<ᶠ◌ ◌≤ᶠ◌ ◌≈ᶠ◌
abbrev pub ◌+ᵈ◌ : Float → Float → Float
◌+ᵈ◌ x y = add binary64 x y

abbrev pub ◌-ᵈ◌ : Float → Float → Float
◌-ᵈ◌ x y = sub binary64 x y

abbrev pub ◌×ᵈ◌ : Float → Float → Float
◌×ᵈ◌ x y = mul binary64 x y

abbrev pub ◌÷ᵈ◌ : Float → Float → Float
◌÷ᵈ◌ x y = div binary64 x y

abbrev pub ◌+ˢ◌ : Float → Float → Float
◌+ˢ◌ x y = add binary32 x y

abbrev pub ◌-ˢ◌ : Float → Float → Float
◌-ˢ◌ x y = sub binary32 x y

abbrev pub ◌×ˢ◌ : Float → Float → Float
◌×ˢ◌ x y = mul binary32 x y

abbrev pub ◌÷ˢ◌ : Float → Float → Float
◌÷ˢ◌ x y = div binary32 x y

abbrev pub ◌<ᶠ◌ : Float → Float → Bool
◌<ᶠ◌ x y = lt x y

abbrev pub ◌≤ᶠ◌ : Float → Float → Bool
◌≤ᶠ◌ x y = le x y

abbrev pub ◌≈ᶠ◌ : Float → Float → Bool
◌≈ᶠ◌ x y = eq x y

-- ---- constants

-- an f32 by its bits
abbrev pub f32 : ℕ → Float
f32 b = from_bits binary32 b

-- the f64 nearest to the whole number n
unfoldable pub whole : ℕ → Float
unfolding round
whole n = round binary64 false n 1

abbrev pub zeroᶠ : Float
zeroᶠ = fin false 0 (pos 0)

abbrev pub oneᶠ : Float
oneᶠ = fin false 1 (pos 0)

abbrev pub halfᶠ : Float
halfᶠ = fin false 1 (negsuc 0)

abbrev pub -∞ : Float
-∞ = inf true
