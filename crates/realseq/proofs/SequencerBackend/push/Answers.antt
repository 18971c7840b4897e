-- `realseq::SequencerBackend::push` meets its contract. Assumes nothing.
use Rattle.realseq.specs.Fronts.{pushes}
use Rattle.realseq.proofs.SequencerBackend.push.Goals as goal

pub returns : goal.returns
unfolding pushes
returns c = c.send_push.ensures
