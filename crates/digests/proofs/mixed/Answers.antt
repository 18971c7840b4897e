-- `digests::mixed` meets its contract. Assumes nothing.
use Rattle.std.proofs.Common.{◌∙◌}
use Rattle.digests.specs.Digests.{mixed}
use Rattle.digests.proofs.Mixing.{turned_is}
use Rattle.digests.proofs.mixed.Goals as goal

pub returns : goal.returns
unfolding mixed
returns c = rw (c.rotate_left.ensures ∙ turned_is _ c.ranges.digest.fits)
