-- `realseq::queues::Returned::push_ready` meets its contract. The loop keeps what the definition sends of the heap's first i. Assumes nothing.
use Rattle.std.proofs.Common.{sym, ◌∙◌, arith}
use Rattle.realseq.proofs.HandlingLaws.{ready_same, ready_on, ready_none}
use Rattle.realseq.proofs.queues.Returned.push_ready.Goals as goal

pub loop-i-init : goal.loop-i-init
loop-i-init c = ready_same _ _ _ _ (omega arith)

pub loop-i-preserved : goal.loop-i-preserved
loop-i-preserved c = ready_same _ _ _ _ (omega arith) ∙ ready_on _ _ _ _ _ _ (omega (arith, c.loop-i-test.true, c.min-i-end.ensures)) c.peek.ensures c.push-self.ensures c.pop-heap.ensures ∙ c.loop-i.invariant

pub returns : goal.returns
returns c = sym (ready_none _ _ _ (omega (arith, c.loop-i-test.false, c.min-i-end.ensures))) ∙ c.loop-i.invariant
