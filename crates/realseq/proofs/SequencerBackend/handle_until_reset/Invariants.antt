-- `realseq::SequencerBackend::handle_until_reset` meets its contract. Assumes nothing.
use Rattle.std.proofs.Common.{◌≡◌}
use Rattle.realseq.specs.Handling.{until_reset}
use Rattle.realseq.proofs.SequencerBackend.handle_until_reset.Given as goal

abbrev pub invariant-loop-q : goal.invariant-loop-q
invariant-loop-q l = until_reset l.self ≡ until_reset l.initial.self

abbrev pub decreases-loop-q : goal.decreases-loop-q
decreases-loop-q l = l.self.messages.count
