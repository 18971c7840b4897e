-- `mixing::fade_in` meets its contract. Assumes nothing.
use Rattle.std.proofs.Common.{ap}
use lib.Ieee.{of_bits}
use Rattle.ledger.specs.BlockSamples.{run_faded_in}
use Rattle.mixing.specs.declared.Place.{Place}
use Rattle.mixing.proofs.fade_in.Goals as goal

pub returns-then-top-span : goal.returns-then-top-span
unfolding run_faded_in of_bits
returns-then-top-span c =
    rw (c.if-event.true, c.if-top-span.true, ← ap (λ (q : Place). q.at) c.fade_in_place-place.ensures, ← c.saturating_sub-to.ensures, ← c.phase_at-phase.ensures, ← c.phase_step-step.ensures) c.fade.ensures

pub returns-else-top-span : goal.returns-else-top-span
unfolding run_faded_in of_bits
returns-else-top-span c = rw (c.if-event.true, c.if-top-span.false)

pub returns-else-event : goal.returns-else-event
unfolding run_faded_in of_bits
returns-else-event c = rw c.if-event.false
