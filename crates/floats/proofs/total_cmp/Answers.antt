-- `floats::total_cmp` meets its contract. Assumes nothing.
use Rattle.std.proofs.Common.{T, sym, subst, ap₂, ◌∙◌}
use Rattle.std.specs.Ordering.{bool_cmp}
use lib.Ieee.{binary64, fits}
use Rattle.floats.proofs.Compared.{equal_values, bits-order, less, greater, nan_order}
use Rattle.floats.proofs.total_cmp.Goals as goal
use Rattle.floats.proofs.total_cmp.Goals.{Start}

held-a : (c : Start) → T (fits binary64 c.args.a)
held-a c = subst T (sym c.well_formed.0.1) tt

held-b : (c : Start) → T (fits binary64 c.args.b)
held-b c = subst T (sym c.well_formed.1.0.1) tt

-- the two are equal values
pub float_to_bits-b : goal.float_to_bits-b
float_to_bits-b c = (equal_values _ _ c.if-a-b.true).3

pub float_to_bits-a : goal.float_to_bits-a
float_to_bits-a c = (equal_values _ _ c.before.if-a-b.true).2

pub returns-then-a-b : goal.returns-then-a-b
returns-then-a-b c = c.cmp.ensures ∙ bits-order c.args.a c.args.b (subst T (sym c.well_formed.0.1) tt) (subst T (sym c.well_formed.1.0.1) tt) c.if-a-b.true

-- one is less
pub returns-then-a-b-2 : goal.returns-then-a-b-2
returns-then-a-b-2 c = less c.args.a c.args.b c.if-a-b-2.true

pub returns-then-b-a : goal.returns-then-b-a
returns-then-b-a c = greater c.args.a c.args.b c.if-b-a.true

-- one is a NaN
pub returns-else-b-a : goal.returns-else-b-a
returns-else-b-a c =
    c.cmp-else-b-a.ensures ∙ ap₂ bool_cmp c.is_nan.ensures.value c.is_nan-else-b-a.ensures.value
    ∙ nan_order c.args.a c.args.b c.if-a-b.false c.if-a-b-2.false c.if-b-a.false
