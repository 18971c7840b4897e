-- `float_bits::f32_from_bits` meets its contract. Assumes nothing.
use lib.Ieee.{binary32, div, of_bits}
use Rattle.float_bits.proofs.Patterns.{nan_there, no_nan_there}
use Rattle.float_bits.proofs.f32_from_bits.Goals as goal

pub float_from_bits-result : goal.float_from_bits-result
float_from_bits-result c = no_nan_there binary32 c.args.bits c.if-bits-gt2139095040.false

pub returns-then-bits-gt2139095040 : goal.returns-then-bits-gt2139095040
unfolding div of_bits
returns-then-bits-gt2139095040 c = nan_there binary32 c.args.bits c.if-bits-gt2139095040.true
