-- `state_listing::digest::ordered_events` meets its contract: the fold is its digest. Assumes nothing.
use Rattle.std.proofs.Common.{◌≡◌, ℕ, ◌+◌, ◌%◌, ◌^◌, ◌≤◌, length, take, ◌∙◌, arith, rules}
use Rattle.std.specs.List.{fold}
use Rattle.event.specs.declared.Event.{Event}
use Rattle.event.specs.Blank.{blank}
use Rattle.digests.specs.Digests.{mixed, mixed_all}
use Rattle.state_listing.specs.Digests.{event_words, edit_words, ordered_events}
use Rattle.state_listing.proofs.Folding.{folded}
use Rattle.state_listing.proofs.digest.ordered_events.Goals as goal

abbrev one : ℕ → Event → ℕ
one = λ d e. mixed_all d (event_words e)

folds : (c : goal.After-fold) → c.fold.result ≡ fold one 0 (take c.min.result c.args.items)
folds c = search rules

pub returns : goal.returns
unfolding ordered_events
returns c =
    let l : length c.args.items ≡ 256 = search rules in
    folds c ∙ folded one blank _ _ _ c.min.ensures (omega (arith, c.min.ensures, l))
