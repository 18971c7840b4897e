-- `tape_writer::is_undefined` meets its contract. Assumes nothing.
use mathlib.Core.Path.{sym, ◌∙◌}
use borrow.Author.Tests.{le-ltb, lt-ltb, eq-eqb, ne_eqb}
use Rattle.tape_writer.specs.Writing.{undefined_by}
use Rattle.tape_writer.proofs.is_undefined.Goals as goal

pub returns-then-kind-gt12 : goal.returns-then-kind-gt12
unfolding undefined_by
returns-then-kind-gt12 c = simp (lt-ltb _ _ c.if-kind-gt12.true)

pub returns-then-kind-eq7 : goal.returns-then-kind-eq7
unfolding undefined_by
returns-then-kind-eq7 c = simp (le-ltb _ _ c.if-kind-gt12.false, ne_eqb _ _ c.if-kind-eq0.false, eq-eqb _ _ c.if-kind-eq7.true)

pub returns : goal.returns
unfolding undefined_by
returns c = simp (le-ltb _ _ c.if-kind-gt12.false, ne_eqb _ _ c.if-kind-eq0.false, ne_eqb _ _ c.if-kind-eq7.false, sym c.is_push.ensures ∙ c.if-is_push.false)

pub returns-then-a-gt255 : goal.returns-then-a-gt255
unfolding undefined_by
returns-then-a-gt255 c = simp (c.if-kind-eq0.true, lt-ltb _ _ c.if-a-gt255.true)

pub returns-else-a-gt255 : goal.returns-else-a-gt255
unfolding undefined_by
returns-else-a-gt255 c = simp (c.if-kind-eq0.true, le-ltb _ _ c.if-a-gt255.false)

pub returns-then-a-gt1 : goal.returns-then-a-gt1
unfolding undefined_by
returns-then-a-gt1 c =
    simp (le-ltb _ _ c.if-kind-gt12.false, ne_eqb _ _ c.if-kind-eq0.false, ne_eqb _ _ c.if-kind-eq7.false, sym c.is_push.ensures ∙ c.if-is_push.true, lt-ltb _ _ c.if-a-gt1.true)

pub returns-else-a-gt1 : goal.returns-else-a-gt1
unfolding undefined_by
returns-else-a-gt1 c =
    simp (le-ltb _ _ c.if-kind-gt12.false, ne_eqb _ _ c.if-kind-eq0.false, ne_eqb _ _ c.if-kind-eq7.false, sym c.is_push.ensures ∙ c.if-is_push.true, le-ltb _ _ c.if-a-gt1.false)
