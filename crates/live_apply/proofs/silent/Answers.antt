-- `live_apply::silent` meets its contract.
use mathlib.Core.Path.{ap}
use Rattle.live_apply.specs.Leaving.{answered_left}
use Rattle.live_apply.proofs.silent.Goals as goal

pub returns : goal.returns
returns c = ap (answered_left c.args.kind) c.refusal.ensures
