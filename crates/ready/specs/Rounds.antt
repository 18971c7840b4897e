-- The loops of push and pop, here and in the engine: what is left to do gives the result r of the definition, with some fuel that is enough.
use Rattle.std.specs.Prelude.{Bool, ◌≡◌, List, ℕ, ◌+◌, ◌≤◌}
use Rattle.ready.specs.Sift.{rise, sink}

module _ {A : Type 0} (less : A → A → Bool) (z : A) where
  pub record Rising (xs : List A) (i : ℕ) (e : A) (r : List A) : Type 0 where
    pub fuel : ℕ
    pub enough : i ≤ fuel
    pub gives : rise less z fuel xs i e ≡ r

  -- for `sink` the fuel is what is left up to n
  pub record Sinking (xs : List A) (n i : ℕ) (e : A) (r : List A) : Type 0 where
    pub fuel : ℕ
    pub enough : n ≤ i + fuel
    pub gives : sink less z fuel xs n i e ≡ r
