-- `sequencer::Sequencer::new` meets its contract. Assumes nothing.
use Rattle.std.proofs.Common.{sym, ◌∙◌}
use Rattle.sequencer.specs.Creation.{created}
use Rattle.sequencer.proofs.Sequencer.new.Goals as goal

pub returns-then-refuses_creation : goal.returns-then-refuses_creation
unfolding created
returns-then-refuses_creation c = rw (sym c.refuses_creation.ensures ∙ c.if-refuses_creation.true, c.fresh.ensures)

pub returns : goal.returns
unfolding created
returns c = rw (sym c.refuses_creation.ensures ∙ c.if-refuses_creation.false, c.fresh-2.ensures)
