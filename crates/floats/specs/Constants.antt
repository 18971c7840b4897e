-- Constants that computed cases and other constants are written with.
use Rattle.std.specs.Prelude.{ℕ, false, from_bits, Float}
use Rattle.std.specs.Float.{inf, binary64}

-- an f64 by its bits
abbrev pub f64 : ℕ → Float
f64 b = from_bits binary64 b

abbrev pub +∞ : Float
+∞ = inf false
