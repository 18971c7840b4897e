-- `floats::narrow` meets its contract. Assumes nothing.
use Rattle.std.proofs.Common.{T, sym, subst}
use lib.Ieee.{binary64}
use Rattle.floats.proofs.Patterns.{same_no_nan, no_nan_bits, result_no_nan, result_is, nan_is}
use Rattle.floats.proofs.narrow.Goals as goal

pub float_to_bits-x : goal.float_to_bits-x
float_to_bits-x c = same_no_nan c.args.x (sym c.if-is_nan.ensures.value)

pub narrow_bits-requires : goal.narrow_bits-requires
narrow_bits-requires c = no_nan_bits binary64 c.args.x (subst T (sym c.well_formed.0.1) tt) (same_no_nan c.args.x (sym c.if-is_nan.ensures.value))

pub float_from_bits-result : goal.float_from_bits-result
float_from_bits-result c =
    result_no_nan c.args.x c.narrow_bits.result (subst T (sym c.well_formed.0.1) tt) c.narrow_bits.ensures
    (same_no_nan c.args.x (sym c.if-is_nan.ensures.value))

pub returns-then-is_nan : goal.returns-then-is_nan
unfolding lib.Ieee.of_bits
returns-then-is_nan c = nan_is c.args.x (sym c.if-is_nan.ensures.value)

pub returns-else-is_nan : goal.returns-else-is_nan
returns-else-is_nan c = result_is c.args.x c.narrow_bits.result (subst T (sym c.well_formed.0.1) tt) c.narrow_bits.ensures
