-- `refusals::tick_refusal` meets its contract. Assumes nothing.
use Rattle.std.proofs.Common.{eq-eqb, ne_eqb}
use lib.Ieee.{of_bits, round}
use Rattle.floats.specs.Arithmetic.{whole}
use Rattle.refusals.specs.Refusals.{tick_refusal}
use Rattle.refusals.proofs.tick_refusal.Goals as goal

pub returns-then-len-outputs : goal.returns-then-len-outputs
unfolding tick_refusal
returns-then-len-outputs c = rw (ne_eqb _ _ c.if-len-outputs.true)

pub returns-then-not-time-sample_duration : goal.returns-then-not-time-sample_duration
unfolding tick_refusal whole of_bits round
returns-then-not-time-sample_duration c = rw (eq-eqb _ _ c.if-len-outputs.false, c.if-not-time-sample_duration.true)

pub returns : goal.returns
unfolding tick_refusal whole of_bits round
returns c = rw (eq-eqb _ _ c.if-len-outputs.false, c.if-not-time-sample_duration.false)
