-- `mixing::end_place` meets its contract. Assumes nothing.
use Rattle.ledger.specs.BlockSamples.{end_place}
use Rattle.ledger.specs.Places.{end_placing}
use Rattle.std.proofs.Common.{◌≡◌, min, arith}
use Rattle.mixing.proofs.end_place.Goals as goal

pub returns-then-event-span : goal.returns-then-event-span
unfolding end_place end_placing
returns-then-event-span c =
    let n : c.min-n.result ≡ min 64 c.args.span.size = omega (arith, c.min-n.ensures) in
    rw (c.if-event-span.true, n)

pub returns : goal.returns
unfolding end_place end_placing
returns c =
    let n : c.min-n.result ≡ min 64 c.args.span.size = omega (arith, c.min-n.ensures) in
    rw (c.if-event-span.false, ← n) c.rounded.ensures
