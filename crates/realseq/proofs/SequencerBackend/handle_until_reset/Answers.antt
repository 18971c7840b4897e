-- `realseq::SequencerBackend::handle_until_reset` meets its contract. Assumes nothing.
use Rattle.std.proofs.Common.{sym, refl, ap, ◌∙◌}
use Rattle.realseq.specs.Queues.{is_reset}
use Rattle.realseq.proofs.HandlingLaws.{until_none, until_stop, until_on}
use Rattle.realseq.proofs.SequencerBackend.handle_until_reset.Goals as goal

pub loop-q-smaller : goal.loop-q-smaller
loop-q-smaller c = (until_on c.loop-q.self c.if-q-eq0.false c.peek-m.result c.pop-self.result c.handle-self.result c.peek-m.ensures (sym c.is_reset.ensures ∙ c.if-is_reset.false) c.pop-self.ensures c.handle-self.ensures).0

pub loop-q-preserved : goal.loop-q-preserved
loop-q-preserved c =
    (until_on c.loop-q.self c.if-q-eq0.false c.peek-m.result c.pop-self.result c.handle-self.result c.peek-m.ensures (sym c.is_reset.ensures ∙ c.if-is_reset.false) c.pop-self.ensures c.handle-self.ensures).1
    ∙ c.loop-q.invariant

pub returns-then-q-eq0 : goal.returns-then-q-eq0
returns-then-q-eq0 c = sym (until_none c.loop-q.self c.if-q-eq0.true) ∙ c.loop-q.invariant

pub returns-then-is_reset : goal.returns-then-is_reset
returns-then-is_reset c =
    sym (until_stop c.loop-q.self c.if-q-eq0.false (ap is_reset (sym c.peek-m.ensures) ∙ sym c.is_reset.ensures ∙ c.if-is_reset.true)) ∙ c.loop-q.invariant

pub loop-q-init : goal.loop-q-init
loop-q-init c = refl
