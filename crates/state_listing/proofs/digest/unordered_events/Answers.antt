-- `state_listing::digest::unordered_events` meets its contract: the fold is its digest. Assumes nothing.
use Rattle.std.proofs.Common.{◌≡◌, ℕ, ◌+◌, ◌%◌, ◌^◌, ◌≤◌, length, take, ◌∙◌, arith, rules}
use Rattle.std.specs.List.{fold}
use Rattle.event.specs.declared.Event.{Event}
use Rattle.event.specs.Blank.{blank}
use Rattle.digests.specs.Digests.{mixed, mixed_all}
use Rattle.state_listing.specs.Digests.{event_words, edit_words, unordered_events}
use Rattle.state_listing.proofs.Folding.{folded}
use Rattle.state_listing.proofs.digest.unordered_events.Goals as goal

abbrev one : ℕ → Event → ℕ
one = λ d e. (d + mixed_all 0 (event_words e)) % 2 ^ 64

folds : (c : goal.After-fold) → c.fold.result ≡ fold one 0 (take c.min.result c.args.items)
folds c = search rules

pub returns : goal.returns
unfolding unordered_events
returns c =
    let l : length c.args.items ≡ 256 = search rules in
    folds c ∙ folded one blank _ _ _ c.min.ensures (omega (arith, c.min.ensures, l))
