-- `mixing::fade_out` meets its contract. Assumes nothing.
use Rattle.std.proofs.Common.{ap}
use lib.Ieee.{of_bits}
use Rattle.ledger.specs.BlockSamples.{run_faded_out}
use Rattle.mixing.specs.declared.Place.{Place}
use Rattle.mixing.proofs.fade_out.Goals as goal

pub returns-then-bottom-span : goal.returns-then-bottom-span
unfolding run_faded_out of_bits
returns-then-bottom-span c =
    rw (c.if-event.true, c.if-bottom-span.true, ← ap (λ (q : Place). q.at) c.fade_out_place-place.ensures, ← c.phase_at-phase.ensures, ← c.phase_step-step.ensures, ← c.saturating_sub-from.ensures, ← c.saturating_sub-to.ensures) c.fade.ensures

pub returns-else-bottom-span : goal.returns-else-bottom-span
unfolding run_faded_out of_bits
returns-else-bottom-span c = rw (c.if-event.true, c.if-bottom-span.false)

pub returns-else-event : goal.returns-else-event
unfolding run_faded_out of_bits
returns-else-event c = rw c.if-event.false
