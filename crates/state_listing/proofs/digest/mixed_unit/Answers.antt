-- `state_listing::digest::mixed_unit` meets its contract, source by source. Assumes nothing.
use Rattle.std.proofs.Common.{sym, refl, ap, ◌∙◌, rules}
use Rattle.digests.specs.Digests.{mixed_all}
use Rattle.state_listing.proofs.Mixing.{after, words_of}
use Rattle.state_listing.proofs.digest.mixed_unit.Goals as goal

pub returns-in-Held : goal.returns-in-Held
unfolding mixed_all
returns-in-Held c =
    let level = after c.mixed.ensures refl c.mixed_sample.ensures in
    after (after (after level refl c.mixed-in-Held.ensures) refl c.mixed-in-Held-2.ensures) refl c.mixed-in-Held-3.ensures ∙ ap (mixed_all c.args.digest) (sym (words_of c.args.unit c.in-Held.is))

pub returns-in-Ramp : goal.returns-in-Ramp
unfolding mixed_all
returns-in-Ramp c =
    let value = after c.mixed-in-Ramp.ensures refl c.mixed_sample-in-Ramp.ensures in
    after (after (after value refl c.mixed_sample-d.ensures) refl c.mixed_sample-in-Ramp-2.ensures) refl c.mixed-in-Ramp-2.ensures ∙ ap (mixed_all c.args.digest) (sym (words_of c.args.unit c.in-Ramp.is))

pub returns-in-Clip : goal.returns-in-Clip
unfolding mixed_all
returns-in-Clip c =
    let offset = after c.mixed-in-Clip.ensures refl c.mixed-in-Clip-2.ensures in
    after (after (after offset refl c.mixed-d.ensures) refl c.mixed-in-Clip-3.ensures) refl c.mixed-in-Clip-4.ensures ∙ ap (mixed_all c.args.digest) (sym (words_of c.args.unit c.in-Clip.is))
