-- `tape_extent::tick` meets its contract. Assumes nothing.
use Rattle.tape_extent.specs.Paces.{paced}
use Rattle.tape_extent.proofs.tick.Goals as goal

pub returns : goal.returns
unfolding paced
returns c = rw (c.rendered.ensures, c.tick_refusal-refusal.ensures)
