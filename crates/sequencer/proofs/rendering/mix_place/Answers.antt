-- `sequencer::rendering::mix_place` meets its contract. Assumes nothing.
use Rattle.std.proofs.Common.{arith}
use Rattle.sequencer.proofs.rendering.mix_place.Goals as goal

pub returns-in-Forward : goal.returns-in-Forward
returns-in-Forward c = (rw c.in-Forward.is, c.requires)

pub returns-in-Backward : goal.returns-in-Backward
returns-in-Backward c = (rw c.in-Backward.is, omega (arith, c.requires))
