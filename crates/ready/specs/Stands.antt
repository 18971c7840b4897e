-- A heap stands for a list: one more stands for the list with it, and where the list's first comes before the others, it is the root. Assumes nothing.
use Rattle.std.specs.Prelude.{Bool, ℕ, ◌≤◌, length, take}
use mathlib.Core.List.{List, Perm}
use Rattle.ready.specs.HeapOrder.{Heap-ordered}

module _ {A : Type 0} (less : A → A → Bool) (z : A) where
  -- the first n of xs are a heap of w's elements
  pub record Stands (xs : List A) (n : ℕ) (w : List A) : Type 0 where
    pub fits : n ≤ length xs
    pub ordered : Heap-ordered less z xs n
    pub same : Perm (take n xs) w
