-- Laws of `made` and `steps`: what a state gives when it is moved on again and again.
use Rattle.std.specs.Prelude.{◌≡◌, ℕ, zero, suc, ◌+◌, ◌<◌, List, [], ◌∷◌, length, slice_index_or}
use Rattle.std.proofs.Math.Path.{refl, ap}
use Rattle.std.proofs.Common.{◌∙◌, arith}
use Rattle.event.specs.Sources.{made, steps}

module _ {A S : Type 0} where
  pub length_made : (value : S → A) (next : S → S) (s : S) (k : ℕ) → length (made value next s k) ≡ k
  unfolding made
  length_made value next s zero = refl
  length_made value next s (suc k) = ap suc (length_made value next (next s) k)

none : (k : ℕ) → k ≡ 0 + k
none k = omega arith

more : (j k : ℕ) → suc (j + k) ≡ suc j + k
more j k = omega arith

module _ {S : Type 0} where
  pub steps-add : (next : S → S) (s : S) (j k : ℕ) → steps next (steps next s j) k ≡ steps next s (j + k)
  unfolding steps
  steps-add next s zero k = ap (steps next s) (none k)
  steps-add next s (suc j) k = steps-add next (next s) j k ∙ ap (steps next s) (more j k)

-- inside a list the default does not count
pub get_or_in : {A : Type 0} (l : List A) (i : ℕ) (d e : A) → i < length l → slice_index_or l i d ≡ slice_index_or l i e
get_or_in [] i d e h = absurd (omega arith)
get_or_in (x ∷ l) zero d e h = refl
get_or_in (x ∷ l) (suc i) d e h = get_or_in l i d e (omega arith)
