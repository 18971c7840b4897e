-- The rest of a slice from a place on. Assumes nothing.
use Rattle.std.proofs.Common.{◌≡◌, ℕ, ◌-◌, List, length, take, drop, le_of_eq, length-drop, take_all}

pub rest_is : (t : List ℕ) (at : ℕ) → take (length t - at) (drop at t) ≡ drop at t
rest_is t at = take_all (length t - at) (drop at t) (le_of_eq (length-drop at t))
