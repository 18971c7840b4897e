-- `state_listing::digest::mixed_edit` meets its contract. Assumes nothing.
use Rattle.std.proofs.Common.{refl, rules}
use Rattle.digests.specs.Digests.{mixed_all}
use Rattle.state_listing.proofs.Mixing.{after}
use Rattle.state_listing.proofs.digest.mixed_edit.Goals as goal

pub returns : goal.returns
unfolding mixed_all
returns c = after (after c.mixed.ensures refl c.mixed_time.ensures) refl c.mixed_time-2.ensures
