-- `lists::kept` meets its contract. Assumes nothing.
use Rattle.lists.specs.Past.{kept_by}
use Rattle.lists.proofs.kept.Goals as goal

pub returns-in-All : goal.returns-in-All
unfolding kept_by
returns-in-All c = rw c.in-All.is

pub returns-in-None : goal.returns-in-None
unfolding kept_by
returns-in-None c = rw c.in-None.is
