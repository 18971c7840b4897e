-- `realseq::queues::Messages::tally` meets its contract. Assumes nothing.
use Rattle.std.proofs.Common.{◌≡◌, ◌+◌, ◌-◌, ◌≤◌, min}
use Rattle.realseq.specs.Queues.{tally_from, tallied}
use Rattle.realseq.proofs.queues.Messages.tally.Given as goal

abbrev pub invariant-loop-i : goal.invariant-loop-i
invariant-loop-i l = (l.total ≤ l.i) × (l.total + tally_from (min l.self.count 64 - l.i) l.i l.self l.kind ≡ tallied l.self l.kind)
