-- `float_bits::f64_from_bits` meets its contract. Assumes nothing.
use lib.Ieee.{binary64, div, of_bits}
use Rattle.float_bits.proofs.Patterns.{nan_there, no_nan_there}
use Rattle.float_bits.proofs.f64_from_bits.Goals as goal

pub float_from_bits-result : goal.float_from_bits-result
float_from_bits-result c = no_nan_there binary64 c.args.bits c.if-bits-gt9218868437227405312.false

pub returns-then-bits-gt9218868437227405312 : goal.returns-then-bits-gt9218868437227405312
unfolding div of_bits
returns-then-bits-gt9218868437227405312 c = nan_there binary64 c.args.bits c.if-bits-gt9218868437227405312.true
