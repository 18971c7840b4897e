-- `refusals::rate_refusal` meets its contract. Assumes nothing.
use lib.Ieee.{of_bits, round}
use Rattle.floats.specs.Arithmetic.{whole}
use Rattle.refusals.specs.Refusals.{rate_refusal}
use Rattle.refusals.proofs.rate_refusal.Goals as goal
use Rattle.refusals.proofs.rate_refusal.Goals.{else-rate-via-then-rate+else-rate-2, else-rate-via-else-rate}

pub returns-then-rate-2 : goal.returns-then-rate-2
unfolding rate_refusal of_bits whole round
returns-then-rate-2 c = rw (c.if-rate.true, c.if-rate-2.true)

pub returns-else-rate : goal.returns-else-rate
unfolding rate_refusal of_bits whole round
returns-else-rate c = elim c.else-rate.branch [
  | else-rate-via-then-rate+else-rate-2 w ↦ rw (w.if-rate.true, w.if-rate-2.false)
  | else-rate-via-else-rate w ↦ rw w.if-rate.false
]
