-- `apply::start` meets its contract. Assumes nothing.
use mathlib.Core.Path.{ap}
use Rattle.sequencer.specs.declared.Outcome.{Outcome}
use Rattle.apply.proofs.start.Goals as goal

pub returns : goal.returns
returns c = ap (λ (o : Outcome). o.sequencer) c.new-made.ensures
