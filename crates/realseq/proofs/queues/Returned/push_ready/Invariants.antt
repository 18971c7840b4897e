-- `realseq::queues::Returned::push_ready` meets its contract. The loop keeps what the definition sends of the heap's first that are left. Assumes nothing.
use Rattle.std.proofs.Common.{◌≡◌, ◌-◌, min}
use Rattle.realseq.specs.Handling.{sent_ready}
use Rattle.realseq.proofs.queues.Returned.push_ready.Given as goal

abbrev pub invariant-loop-i : goal.invariant-loop-i
invariant-loop-i l = sent_ready (min l.initial.heap.len 256 - l._i) l.heap l.self ≡ sent_ready (min l.initial.heap.len 256) l.initial.heap l.initial.self
