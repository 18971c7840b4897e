-- `mixing::fade_out_place` meets its contract. Assumes nothing.
use Rattle.std.proofs.Common.{◌≡◌, max, ap, ◌∙◌, arith}
use Rattle.ledger.specs.BlockSamples.{fade_out_place}
use Rattle.ledger.specs.Places.{fade_out_placing}
use Rattle.mixing.specs.Placed.{raised_place}
use Rattle.mixing.proofs.fade_out_place.Goals as goal

pub returns-then-bottom-span : goal.returns-then-bottom-span
unfolding fade_out_place fade_out_placing
returns-then-bottom-span c =
    let s = c.args.s in
    let m : max 0 s ≡ s = omega arith in
    rw (c.if-bottom-span.true, m)

pub returns : goal.returns
unfolding fade_out_place fade_out_placing
returns c =
    let s = c.args.s in
    rw c.if-bottom-span.false (c.raised.ensures ∙ ap (raised_place s) c.rounded.ensures)
