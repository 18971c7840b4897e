-- `live::creation::mode_number` meets its contract.
use Rattle.live.proofs.creation.mode_number.Goals as goal

pub returns-in-All : goal.returns-in-All
returns-in-All c = rw c.in-All.is

pub returns-in-None : goal.returns-in-None
returns-in-None c = rw c.in-None.is
