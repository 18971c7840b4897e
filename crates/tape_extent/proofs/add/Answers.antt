-- `tape_extent::add` meets its contract. Assumes nothing.
use Rattle.tape_extent.specs.Extents.{longer, counts64}
use Rattle.tape_extent.proofs.add.Goals as goal

pub returns : goal.returns
unfolding longer counts64
returns c =
    rw (c.saturating_add.ensures, c.bytes_of.ensures, c.saturating_add-2.ensures, c.rate_of.ensures, c.one_rate.ensures)
