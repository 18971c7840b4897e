-- `sequencer::Sequencer::push_active` meets its contract.
use Rattle.std.proofs.Common.{le-ltb, lt-ltb}
use Rattle.sequencer.specs.Moves.{pushed_active}
use Rattle.sequencer.proofs.Sequencer.push_active.Goals as goal

pub returns-then-n-lt256 : goal.returns-then-n-lt256
unfolding pushed_active
returns-then-n-lt256 c = rw (lt-ltb _ _ c.if-n-lt256.true)

pub returns-else-n-lt256 : goal.returns-else-n-lt256
unfolding pushed_active
returns-else-n-lt256 c = rw (le-ltb _ _ c.if-n-lt256.false)
