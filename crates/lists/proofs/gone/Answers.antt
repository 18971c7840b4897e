-- `lists::gone` meets its contract. Assumes nothing.
use Rattle.lists.specs.Past.{gone_by}
use Rattle.lists.proofs.gone.Goals as goal

pub returns-in-All : goal.returns-in-All
unfolding gone_by
returns-in-All c = rw c.in-All.is

pub returns-in-None : goal.returns-in-None
unfolding gone_by
returns-in-None c = rw c.in-None.is
