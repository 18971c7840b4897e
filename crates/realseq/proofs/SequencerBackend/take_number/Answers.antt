-- `realseq::SequencerBackend::take_number` meets its contract. Assumes nothing.
use Rattle.std.proofs.Common.{refl}
use Rattle.realseq.specs.Fronts.{numbered}
use Rattle.realseq.proofs.SequencerBackend.take_number.Goals as goal

pub returns : goal.returns
unfolding numbered
returns c = refl
