-- `whole` is what the code's `n as f64` stands for in a contract.
use Rattle.std.specs.Prelude.{◌≡◌, ℕ, pos, refl}
use Rattle.std.specs.Float.{binary64}
use Rattle.std.specs.Float.Ieee.{of_int}
use Rattle.floats.specs.Arithmetic.{whole}

pub whole_is : (n : ℕ) → whole n ≡ of_int binary64 (pos n)
unfolding whole of_int
whole_is n = refl
