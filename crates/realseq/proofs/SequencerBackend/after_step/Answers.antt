-- `realseq::SequencerBackend::after_step` meets its contract.
use Rattle.std.proofs.Common.{ap₂}
use Rattle.realseq.specs.declared.SequencerBackend.{SequencerBackend}
use Rattle.realseq.specs.declared.Answer.{Answer}
use Rattle.realseq.proofs.SequencerBackend.after_step.Goals as goal

pub returns : goal.returns
returns c = ap₂ (λ (b : SequencerBackend) (x : Answer). record { backend = b; answer = x }) c.send_back_past.ensures c.from.ensures
