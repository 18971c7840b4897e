-- Lists walked from their first element on: the shapes of the sample loops.
use Rattle.std.specs.Prelude.{ℕ, List, [], ◌∷◌, ◌++◌, take, drop}

module _ {A S : Type 0} where
  -- each element is replaced by `f state element`, and the state moves on by `next`
  unfoldable pub walk : (S → A → A) → (S → S) → S → List A → List A
  walk f next s [] = []
  walk f next s (a ∷ l) = f s a ∷ walk f next (next s) l

  -- the state after the walk
  unfoldable pub ends : (S → S) → S → List A → S
  ends next s [] = s
  ends next s (a ∷ l) = ends next (next s) l

module _ {A B : Type 0} where
  -- each element is replaced by `h element other`, as long as there are others
  unfoldable pub zipped : (A → B → A) → List B → List A → List A
  zipped h xs [] = []
  zipped h [] (a ∷ l) = a ∷ l
  zipped h (x ∷ xs) (a ∷ l) = h a x ∷ zipped h xs l

module _ {A : Type 0} where
  -- g of the first n, the rest as it was
  abbrev pub front : ℕ → (List A → List A) → List A → List A
  front n g l = g (take n l) ++ drop n l

  -- the first n as they were, g of the rest
  abbrev pub after : ℕ → (List A → List A) → List A → List A
  after n g l = take n l ++ g (drop n l)
