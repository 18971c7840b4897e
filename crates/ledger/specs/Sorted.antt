-- W is sorted by start, then by number, and none of W starts before the threshold: what the operations on W keep of it. Assumes nothing.
use Rattle.std.specs.Prelude.{ℕ, ◌≡◌, Bool, true, false, cond, Float}
use mathlib.Core.List.{List, [], ◌∷◌, Memᴰ}
use Rattle.std.specs.Float.Ieee.{lt, is_nan}
use Rattle.event.specs.declared.Event.{Event}
use Rattle.event.specs.Events.{earlier}

-- each comes before all that follow it
abbrev pub Sorted : List Event → Type 0
Sorted [] = Unit {0}
Sorted (e ∷ l) = ((f : Event) → Memᴰ f l → earlier e f ≡ true) × Sorted l

-- ---- neighbours suffice: none comes before the one in front of it
abbrev pub Before : Event → List Event → Type 0
Before e [] = Unit {0}
Before e (f ∷ l) = earlier f e ≡ false

abbrev pub WeaklySorted : List Event → Type 0
WeaklySorted [] = Unit {0}
WeaklySorted (e ∷ l) = Before e l × WeaklySorted l

-- ---- none before the threshold: as a weight, so that `specs.Sums` and `specs.Conservation` carry it along

abbrev pub one_if : Bool → ℕ
one_if b = cond b 1 0

abbrev pub early : Float → Float → ℕ → ℕ
early θ x n = one_if (lt x θ)

abbrev pub nan_start : Float → ℕ → ℕ
nan_start x n = one_if (is_nan x)
