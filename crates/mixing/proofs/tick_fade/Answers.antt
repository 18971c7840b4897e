use lib.Ieee.{of_bits}
use Rattle.mixing.proofs.tick_fade.Goals as goal

pub returns-then-phase : goal.returns-then-phase
unfolding of_bits
returns-then-phase c = rw (← c.delerp.ensures, ← c.narrow-phase.ensures, c.if-rising.true, c.if-phase.true, c.at.ensures)

pub returns-then-rising : goal.returns-then-rising
unfolding of_bits
returns-then-rising c = rw (← c.delerp.ensures, ← c.narrow-phase.ensures, c.if-rising.true, c.if-phase.false)

pub returns-then-phase-2 : goal.returns-then-phase-2
unfolding of_bits
returns-then-phase-2 c = rw (← c.delerp.ensures, ← c.narrow-phase.ensures, c.if-rising.false, c.if-phase-2.true, c.at-then-phase-2.ensures)

pub returns : goal.returns
unfolding of_bits
returns c = rw (← c.delerp.ensures, ← c.narrow-phase.ensures, c.if-rising.false, c.if-phase-2.false)
