-- `realseq::SequencerBackend::push_duration` meets its contract. Assumes nothing.
use Rattle.realseq.specs.Fronts.{pushes}
use Rattle.realseq.proofs.SequencerBackend.push_duration.Goals as goal

pub returns : goal.returns
unfolding pushes
returns c = c.send_push.ensures
