-- Pieces put one after the other. Assumes nothing.
use Rattle.std.specs.Prelude.{◌≡◌, List, [], ◌∷◌, ◌++◌, ℕ}
use Rattle.std.proofs.Common.{sym, ap, ◌∙◌}
use Rattle.listing.specs.Pieces.{Text, add, add_all, add-append}

-- one piece
pub one : (t : Text) {u : Text} (p : List ℕ) → u ≡ add p t → u ≡ add_all (p ∷ []) t
unfolding add_all
one t p e = e

-- pieces, and more behind them
pub further : (t : Text) {u v : Text} (ps qs : List (List ℕ)) → u ≡ add_all ps t → v ≡ add_all qs u → v ≡ add_all (ps ++ qs) t
further t ps qs p q = q ∙ ap (add_all qs) p ∙ sym (add-append ps qs t)

-- pieces under another name
pub named : (t : Text) {u : Text} {ps qs : List (List ℕ)} → ps ≡ qs → u ≡ add_all ps t → u ≡ add_all qs t
named t e p = p ∙ ap (λ (l : List (List ℕ)). add_all l t) e

-- one piece under another name
pub under : (t : Text) {u : Text} {p q : List ℕ} → q ≡ p → u ≡ add p t → u ≡ add q t
under t e h = h ∙ ap (λ (x : List ℕ). add x t) (sym e)
