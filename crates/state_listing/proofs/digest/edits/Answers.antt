-- `state_listing::digest::edits` meets its contract: the fold is its digest. Assumes nothing.
use Rattle.std.proofs.Common.{◌≡◌, ℕ, ◌+◌, ◌%◌, ◌^◌, ◌≤◌, length, take, ◌∙◌, arith, rules}
use Rattle.std.specs.List.{fold}
use Rattle.event.specs.declared.StoredEdit.{StoredEdit}
use Rattle.lists.specs.Edits.{no_edit}
use Rattle.digests.specs.Digests.{mixed, mixed_all}
use Rattle.state_listing.specs.Digests.{event_words, edit_words, edits_digest}
use Rattle.state_listing.proofs.Folding.{folded}
use Rattle.state_listing.proofs.digest.edits.Goals as goal

pub returns : goal.returns
unfolding edits_digest
returns c =
    let g : ℕ → StoredEdit → ℕ = λ d s. (d + mixed_all 0 (edit_words s.id s.edit)) % 2 ^ 64 in
    let l : length c.args.map.items ≡ 256 = search rules in
    let f : c.fold.result ≡ fold g 0 (take c.min.result c.args.map.items) = search rules in
    f ∙ folded g no_edit _ _ _ c.min.ensures (omega (arith, c.min.ensures, l))
