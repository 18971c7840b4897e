-- `live::creation::create` meets its contract.
use Rattle.std.proofs.Common.{sym, refl, ◌∙◌}
use Rattle.sequencer.specs.Creation.{created}
use Rattle.live.proofs.creation.create.Goals as goal

pub returns-then-refuses_creation : goal.returns-then-refuses_creation
unfolding created
returns-then-refuses_creation c = rw (sym c.refuses_creation.ensures ∙ c.if-refuses_creation.true) (record { engine = c.fresh.ensures; answer = refl })

pub returns : goal.returns
unfolding created
returns c = rw (sym c.refuses_creation.ensures ∙ c.if-refuses_creation.false) (record { engine = c.fresh-2.ensures; answer = refl })
