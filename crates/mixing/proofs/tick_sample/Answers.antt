-- `mixing::tick_sample` meets its contract. Assumes nothing.
use Rattle.mixing.proofs.tick_sample.Goals as goal

pub returns : goal.returns
returns c = rw (c.tick_fade_out.ensures, c.tick_fade_in-y.ensures, c.sample.ensures)
