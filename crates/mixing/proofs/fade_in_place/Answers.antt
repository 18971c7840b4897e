-- `mixing::fade_in_place` meets its contract. Assumes nothing.
use Rattle.ledger.specs.BlockSamples.{fade_in_place}
use Rattle.ledger.specs.Places.{fade_in_placing}
use Rattle.mixing.proofs.fade_in_place.Goals as goal

pub returns-then-top-span : goal.returns-then-top-span
unfolding fade_in_place fade_in_placing
returns-then-top-span c = rw c.if-top-span.true

pub returns : goal.returns
unfolding fade_in_place fade_in_placing
returns c = rw c.if-top-span.false c.rounded.ensures
