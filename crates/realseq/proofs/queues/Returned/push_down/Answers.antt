-- `realseq::queues::Returned::push_down` meets its contract. The loop keeps what the definition sends from place i - 1 down. Assumes nothing.
use Rattle.std.proofs.Common.{sym, ◌∙◌, arith}
use Rattle.realseq.proofs.HandlingLaws.{down-same, down_on, down-none}
use Rattle.realseq.proofs.queues.Returned.push_down.Goals as goal

pub loop-i-init : goal.loop-i-init
loop-i-init c = down-same _ _ _ _ c.min-i.ensures

pub loop-i-preserved : goal.loop-i-preserved
loop-i-preserved c = down_on _ _ _ _ c.loop-i-test.true c.push-self.ensures ∙ c.loop-i.invariant

pub returns : goal.returns
returns c = sym (down-none _ _ _ (omega (arith, c.loop-i-test.false))) ∙ c.loop-i.invariant
