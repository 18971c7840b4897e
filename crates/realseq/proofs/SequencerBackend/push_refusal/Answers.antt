-- `realseq::SequencerBackend::push_refusal` meets its contract. Assumes nothing.
use Rattle.std.proofs.Common.{refl, ◌≡◌, ℕ, ◌+◌, ◌<◌, ◌≤◌, min, ap, ◌∙◌, arith}
use lib.Ieee.{Float}
use Rattle.event.specs.declared.Source.{Source}
use Rattle.refusals.specs.Refusals.{push_refusal}
use Rattle.refusals.specs.Numbers.{refused_is, taken_is}
use Rattle.realseq.specs.declared.SequencerBackend.{SequencerBackend}
use Rattle.realseq.specs.declared.queues.Messages.{Messages}
use Rattle.realseq.specs.Queues.{tallied}
use Rattle.realseq.specs.QueueLaws.{tallied-le}
use Rattle.realseq.specs.Fronts.{push_refused}
use Rattle.realseq.proofs.Choices.{or_other, or-13, or-0}
use Rattle.realseq.proofs.SequencerBackend.push_refusal.Goals as goal

few : (n : ℕ) (q : Messages) (k : ℕ) → n ≡ tallied q k → n ≤ 64
few n q k h = omega (arith, tallied-le q k, h)

module _ (d : SequencerBackend) (start end lasts fade_in fade_out : Float) (source : Source) (gain : Float) where
  abbrev no : (held : ℕ) → ℕ
  no held = push_refusal start end lasts fade_in fade_out source gain held d.sequencer.next

  abbrev all : ℕ
  all = min (d.sequencer.ready_len + (d.sequencer.active_len + d.sequencer.past_len)) 256 + tallied d.messages 1

  module _ (a b k : ℕ) (ha : a ≡ min (d.sequencer.ready_len + (d.sequencer.active_len + d.sequencer.past_len)) 256) (hb : b ≡ tallied d.messages 1) (h : k ≡ no (a + b)) where
    same : k ≡ no all
    same = h ∙ ap no (rw (ha, hb))

    other : (k ≡ 0 → ⊥) → k ≡ push_refused d start end lasts fade_in fade_out source gain
    unfolding push_refused
    other s = or_other k (no all) same d s

    full : k ≡ 0 → 64 ≤ d.messages.count → 13 ≡ push_refused d start end lasts fade_in fade_out source gain
    unfolding push_refused
    full z l = or-13 k (no all) same d z l

    fine : k ≡ 0 → d.messages.count < 64 → 0 ≡ push_refused d start end lasts fade_in fade_out source gain
    unfolding push_refused
    fine z l = or-0 k (no all) same d z l

pub overflow_add-n : goal.overflow_add-n
overflow_add-n c = omega (arith, c.held.ensures, few c.tally.result _ _ c.tally.ensures)

pub returns-in-Some : goal.returns-in-Some
returns-in-Some c =
    let r = refused_is _ _ _ c.push_refusal.ensures c.in-Some.is in
    other _ _ _ _ _ _ _ _ _ _ _ c.held.ensures (c.tally.ensures ∙ ap (tallied c.args.self.messages) c.number.ensures) r.0 (λ z. omega (arith, r.0, r.1, z))

pub returns-then-self-ge64 : goal.returns-then-self-ge64
returns-then-self-ge64 c = full _ _ _ _ _ _ _ _ _ _ _ c.held.ensures (c.tally.ensures ∙ ap (tallied c.args.self.messages) c.number.ensures) refl (taken_is _ _ c.push_refusal.ensures c.in_default.is) c.if-self-ge64.true

pub returns : goal.returns
returns c = fine _ _ _ _ _ _ _ _ _ _ _ c.held.ensures (c.tally.ensures ∙ ap (tallied c.args.self.messages) c.number.ensures) refl (taken_is _ _ c.push_refusal.ensures c.in_default.is) c.if-self-ge64.false
