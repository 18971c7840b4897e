-- `state_listing::digest::mixed_event` meets its contract: field after field, then the source. Assumes nothing.
use Rattle.std.proofs.Common.{ℕ, refl, ap, ◌∙◌, rules}
use Rattle.digests.specs.Digests.{mixed_all}
use Rattle.state_listing.specs.Digests.{unit_words, event_words}
use Rattle.state_listing.proofs.Mixing.{after}
use Rattle.state_listing.proofs.digest.mixed_event.Goals as goal

pub returns : goal.returns
unfolding mixed_all event_words
returns c =
    let start = after c.mixed-d.ensures refl c.mixed_time.ensures in
    let times = after (after (after start refl c.mixed_time-d.ensures) refl c.mixed_time-2.ensures) refl c.mixed_time-d-2.ensures in
    let curve = after (after times refl c.mixed_sample-d.ensures) c.curve_number.ensures c.mixed-d-2.ensures in
    c.mixed_unit.ensures ∙ ap (λ (d : ℕ). mixed_all d (unit_words c.args.event.unit)) curve
