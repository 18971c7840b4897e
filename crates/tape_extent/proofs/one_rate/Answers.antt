-- `tape_extent::one_rate` meets its contract. Assumes nothing.
use Rattle.std.proofs.Common.{eq-eqb, ne_eqb}
use Rattle.tape_extent.specs.Extents.{one_rate_with}
use Rattle.tape_extent.proofs.one_rate.Goals as goal

pub returns-then-n-eq0 : goal.returns-then-n-eq0
unfolding one_rate_with
returns-then-n-eq0 c = rw (eq-eqb _ _ c.if-n-eq0.true)

pub returns-then-x-eq0 : goal.returns-then-x-eq0
unfolding one_rate_with
returns-then-x-eq0 c = rw (ne_eqb _ _ c.if-n-eq0.false, eq-eqb _ _ c.if-x-eq0.true)

pub returns-then-x : goal.returns-then-x
unfolding one_rate_with
returns-then-x c = rw (ne_eqb _ _ c.if-n-eq0.false, ne_eqb _ _ c.if-x-eq0.false, c.if-x.true)

pub returns-else-x : goal.returns-else-x
unfolding one_rate_with
returns-else-x c = rw (ne_eqb _ _ c.if-n-eq0.false, ne_eqb _ _ c.if-x-eq0.false, c.if-x.false)
