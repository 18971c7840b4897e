-- Each call adds to the weight of W, S, F and G that of the number it answers, and nothing else. Assumes nothing.
use Rattle.std.specs.Prelude.{ℕ, ◌+◌, ◌≡◌, Float}
use Rattle.ledger.specs.Ledger.{Ledger}
use Rattle.ledger.specs.Steps.{Outcome}
use Rattle.ledger.specs.Claim.{accepted_of}
use Rattle.ledger.specs.Sums.{number_sum, event_sum}

-- the weight of W, S and F, by start and number
module _ (w : Float → ℕ → ℕ) where
  abbrev pub held_sum : Ledger → ℕ
  held_sum l = event_sum w l.waiting + (event_sum w l.sounding + event_sum w l.finished)

module _ (u : ℕ → ℕ) where
  abbrev pub by_number : Float → ℕ → ℕ
  by_number x n = u n

  abbrev pub four_sum : Ledger → ℕ
  four_sum l = held_sum by_number l + number_sum u l.gone

  abbrev pub Adds : Ledger → Outcome → Type 0
  Adds l o = four_sum o.ledger ≡ four_sum l + number_sum u (accepted_of o.reply.answer)
