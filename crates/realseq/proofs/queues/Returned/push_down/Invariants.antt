-- `realseq::queues::Returned::push_down` meets its contract. The loop keeps what the definition sends from place i - 1 down. Assumes nothing.
use Rattle.std.proofs.Common.{◌≡◌, min}
use Rattle.realseq.specs.Handling.{sent_down}
use Rattle.realseq.proofs.queues.Returned.push_down.Given as goal

abbrev pub invariant-loop-i : goal.invariant-loop-i
invariant-loop-i l = sent_down l.i l.events l.self ≡ sent_down (min l.n 256) l.events l.initial.self
