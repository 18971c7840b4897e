use Rattle.std.proofs.Common.{refl}
use Rattle.wav.proofs.Steps.{loudest_on, loudest_end}
use Rattle.wav.proofs.frames.loudest.Goals as goal

pub loop-sample-init : goal.loop-sample-init
loop-sample-init c = refl

pub loop-sample-preserved : goal.loop-sample-preserved
loop-sample-preserved c = rw c.max-most.ensures (loudest_on _ _ _ _ _ c.loop-sample-test.true c.loop-sample.invariant c.f32_to_bits.ensures)

pub returns : goal.returns
returns c = loudest_end _ _ _ _ c.loop-sample-test.false c.loop-sample.invariant
