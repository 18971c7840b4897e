-- Parts of a line put one after the other. Assumes nothing.
use Rattle.std.proofs.Common.{◌≡◌, ℕ, List, ◌++◌, sym, ap, ◌∙◌}
use Rattle.listing.specs.Pieces.{Text, add_all, add-append}

pub join : (t : Text) {u v : Text} (ps qs : List (List ℕ)) → u ≡ add_all ps t → v ≡ add_all qs u → v ≡ add_all (ps ++ qs) t
join t ps qs p q = q ∙ ap (add_all qs) p ∙ sym (add-append ps qs t)

-- a part that is another's text
pub same-part : (t : Text) {u : Text} {ps qs : List (List ℕ)} → ps ≡ qs → u ≡ add_all ps t → u ≡ add_all qs t
same-part t e p = p ∙ ap (λ (l : List (List ℕ)). add_all l t) e
