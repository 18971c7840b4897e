-- An event's weight is any number made of its start and number. Whatever the weight, each operation on the ledger's lists keeps the sum: nothing is lost and nothing is made. Assumes nothing.
use Prim.Native.Nat.{ℕ, ◌+◌}
use Rattle.std.specs.Prelude.{Float}
use mathlib.Core.List.{List, [], ◌∷◌}
use Rattle.event.specs.declared.Event.{Event}
use Rattle.event.specs.Events.{number_of}

module _ (u : ℕ → ℕ) where
  abbrev pub number_sum : List ℕ → ℕ
  number_sum [] = 0
  number_sum (n ∷ l) = u n + number_sum l

module _ (w : Float → ℕ → ℕ) where
  abbrev pub weight : Event → ℕ
  weight e = w e.start_time (number_of e)

  abbrev pub event_sum : List Event → ℕ
  event_sum [] = 0
  event_sum (e ∷ l) = weight e + event_sum l
