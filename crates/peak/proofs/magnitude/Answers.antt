use Rattle.peak.specs.Peaks.{magnitude}
use Rattle.peak.proofs.magnitude.Goals as goal

pub returns : goal.returns
unfolding magnitude
returns c = rw c.f32_to_bits.ensures
