-- `tape_extent::rendered` meets its contract. Assumes nothing.
use Rattle.std.proofs.Common.{sym, ◌∙◌}
use Rattle.tape_extent.proofs.Taken.{none-applies, one-applies}
use Rattle.tape_extent.proofs.rendered.Goals as goal

pub returns-then-is_some : goal.returns-then-is_some
returns-then-is_some c = rw (one-applies _ (sym c.is_some.ensures ∙ c.if-is_some.true), c.without_samples.ensures)

pub returns : goal.returns
returns c = rw (none-applies _ (sym c.is_some.ensures ∙ c.if-is_some.false), c.pace_at.ensures)
