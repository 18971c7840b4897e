-- `mixing::first_place` meets its contract. Assumes nothing.
use Rattle.ledger.specs.BlockSamples.{first_place}
use Rattle.ledger.specs.Places.{first_placing}
use Rattle.std.proofs.Common.{◌≡◌, min, arith}
use Rattle.mixing.proofs.first_place.Goals as goal

pub returns-then-event-span : goal.returns-then-event-span
unfolding first_place first_placing
returns-then-event-span c = rw c.if-event-span.true

pub returns : goal.returns
unfolding first_place first_placing
returns c =
    let n : c.min.result ≡ min 64 c.args.span.size = omega (arith, c.min.ensures) in
    rw (c.if-event-span.false, ← n) c.rounded.ensures
