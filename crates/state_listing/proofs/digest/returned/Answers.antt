-- `state_listing::digest::returned` meets its contract: the fold is its digest. Assumes nothing.
use Rattle.std.proofs.Common.{◌≡◌, ℕ, ◌+◌, ◌%◌, ◌^◌, ◌≤◌, length, take, ◌∙◌, arith, rules}
use Rattle.std.specs.List.{fold}
use Rattle.event.specs.declared.EventId.{EventId}
use Rattle.lists.specs.Index.{no_id}
use Rattle.digests.specs.Digests.{mixed, mixed_all}
use Rattle.state_listing.specs.Digests.{event_words, edit_words, returned_digest}
use Rattle.state_listing.proofs.Folding.{folded}
use Rattle.state_listing.proofs.digest.returned.Goals as goal

pub returns : goal.returns
unfolding returned_digest
returns c =
    let g : ℕ → EventId → ℕ = λ d k. mixed d k.0 in
    let l : length c.args.r.ids ≡ 64 = search rules in
    let f : c.fold.result ≡ fold g 0 (take c.min.result c.args.r.ids) = search rules in
    f ∙ folded g no_id _ _ _ c.min.ensures (omega (arith, c.min.ensures, l))
