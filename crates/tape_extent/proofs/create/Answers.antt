-- `tape_extent::create` meets its contract. Assumes nothing.
use Rattle.std.proofs.Common.{sym, ◌∙◌}
use Rattle.tape_extent.proofs.create.Goals as goal

pub returns-then-accepts_creation : goal.returns-then-accepts_creation
returns-then-accepts_creation c =
    rw (sym c.accepts_creation.ensures ∙ c.if-accepts_creation.true, c.without_samples.ensures, c.fresh_pace.ensures)

pub returns : goal.returns
returns c = rw (sym c.accepts_creation.ensures ∙ c.if-accepts_creation.false, c.fresh_pace-2.ensures)
