-- `float_bits::f32_to_bits` meets its contract. Assumes nothing.
use mathlib.Core.Path.{sym}
use lib.Ieee.{binary32, to_bits}
use Rattle.float_bits.proofs.Patterns.{nan_bits_lem}
use Rattle.float_bits.proofs.f32_to_bits.Goals as goal

pub returns-then-is_nan : goal.returns-then-is_nan
unfolding to_bits
returns-then-is_nan c = nan_bits_lem binary32 c.args.x (sym c.if-is_nan.ensures.value)
