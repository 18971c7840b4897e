-- `mixing::after_tick` meets its contract. Assumes nothing.
use Rattle.mixing.proofs.after_tick.Goals as goal

pub returns : goal.returns
returns c = rw c.advance-event.ensures
