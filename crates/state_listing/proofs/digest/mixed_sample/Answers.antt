-- `state_listing::digest::mixed_sample` meets its contract. Assumes nothing.
use Rattle.std.proofs.Common.{refl, rules}
use Rattle.state_listing.proofs.Mixing.{after}
use Rattle.state_listing.proofs.digest.mixed_sample.Goals as goal

pub returns : goal.returns
returns c = after refl c.f32_to_bits.ensures c.mixed.ensures
