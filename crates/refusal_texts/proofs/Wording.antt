-- A text that is put, under another name, and the numbers that are no refusal. Assumes nothing.
use Prim.Native.Nat.{ℕ, zero, suc, ◌+◌, ◌≤◌}
use mathlib.Core.Path.{◌≡◌, refl, sym, ap, ◌∙◌}
use mathlib.Core.List.{List}
use native.Mathlib.Omega.{arith}
use lib.ListN.{get_or-eq_default}
use Rattle.listing.specs.Ascii.{ascii}
use Rattle.listing.specs.Pieces.{Text, add}
use Rattle.refusal_texts.specs.Texts.{texts, text_of}

pub worded : (t : Text) {u : Text} {p q : List ℕ} → q ≡ p → u ≡ add p t → u ≡ add q t
worded t e h = h ∙ ap (λ (x : List ℕ). add x t) (sym e)

-- a number from k on, which is not k
pub above : {k n : ℕ} → (n ≡ k → ⊥) → k ≤ n → k + 1 ≤ n
above h l = omega arith

-- 0, and what is behind the table
pub none : (n : ℕ) → (1 ≤ n → 25 ≤ n) → text_of n ≡ ascii "no refusal"
unfolding text_of texts
none zero h = refl
none (suc n) h = get_or-eq_default texts (ascii "no refusal") {n = suc n} (h (omega arith))
