-- `realseq::SequencerBackend::edit_refusal` meets its contract. Assumes nothing.
use Rattle.std.proofs.Common.{◌≡◌, ℕ, ◌+◌, ◌<◌, ◌≤◌, Bool, true, false, cond, eqb, leb, sym, refl, ap, ◌∙◌, arith, eq-eqb, ne_eqb, le-leb}
use borrow.Author.Tests.{lt-leb}
use lib.Ieee.{Float}
use Rattle.refusals.specs.Refusals.{edit_limits}
use Rattle.refusals.specs.Numbers.{refused_is, taken_is}
use Rattle.realseq.specs.declared.SequencerBackend.{SequencerBackend}
use Rattle.realseq.specs.declared.queues.Messages.{Messages}
use Rattle.realseq.specs.Queues.{tallied}
use Rattle.realseq.specs.QueueLaws.{tallied-le}
use Rattle.realseq.specs.Fronts.{or_full, edit_refused}
use Rattle.realseq.proofs.Choices.{or-13, or-0}
use Rattle.realseq.proofs.SequencerBackend.edit_refusal.Goals as goal
use Rattle.realseq.proofs.SequencerBackend.edit_refusal.Goals.{then-stored-ge256-via-then-stored-ge256, then-stored-ge256-via-else-stored-ge256+then-stored-tally-ge256}

few : (n : ℕ) (q : Messages) (k : ℕ) → n ≡ tallied q k → n ≤ 64
few n q k h = omega (arith, tallied-le q k, h)

module _ (d : SequencerBackend) (end fade_out : Float) (k : ℕ) (h : k ≡ edit_limits end fade_out) where
  abbrev more : ℕ
  more = d.sequencer.edit_map.len + tallied d.messages 2

  beyond : (k ≡ 0 → ⊥) → k ≡ edit_refused d end fade_out
  unfolding edit_refused
  beyond s = h ∙ sym (ap (λ (b : Bool). cond b (cond (leb 256 more) 9 (or_full d 0)) (edit_limits end fade_out)) (ap (λ (n : ℕ). eqb n 0) (sym h) ∙ ne_eqb k 0 s))

  module _ (z : k ≡ 0) where
    within : (b : Bool) → leb 256 more ≡ b → cond b 9 (or_full d 0) ≡ edit_refused d end fade_out
    unfolding edit_refused
    within b g =
        sym
        (ap (λ (x : Bool). cond x (cond (leb 256 more) 9 (or_full d 0)) (edit_limits end fade_out)) (ap (λ (n : ℕ). eqb n 0) (sym h) ∙ eq-eqb k 0 z)
        ∙ ap (λ (x : Bool). cond x 9 (or_full d 0)) g)

    stores : (t : ℕ) → t ≡ tallied d.messages 2 → 256 ≤ d.sequencer.edit_map.len + t → 9 ≡ edit_refused d end fade_out
    stores t e l = within true (le-leb 256 more (omega (arith, l, e)))

    stored : 256 ≤ d.sequencer.edit_map.len → 9 ≡ edit_refused d end fade_out
    stored l = within true (le-leb 256 more (omega arith))

    module _ (t : ℕ) (e : t ≡ tallied d.messages 2) (l : d.sequencer.edit_map.len + t < 256) where
      full : 64 ≤ d.messages.count → 13 ≡ edit_refused d end fade_out
      full m = or-13 0 0 refl d refl m ∙ within false (lt-leb 256 more (omega (arith, l, e)))

      fine : d.messages.count < 64 → 0 ≡ edit_refused d end fade_out
      fine m = or-0 0 0 refl d refl m ∙ within false (lt-leb 256 more (omega (arith, l, e)))

pub returns-in-Some : goal.returns-in-Some
returns-in-Some c =
    let r = refused_is _ _ _ c.edit_limits.ensures c.in-Some.is in
    beyond _ _ _ _ r.0 (λ z. omega (arith, r.0, r.1, z))

pub overflow_add-stored : goal.overflow_add-stored
overflow_add-stored c = omega (arith, few c.tally.result _ _ c.tally.ensures, c.if-stored-ge256.false)

pub returns-then-stored-ge256 : goal.returns-then-stored-ge256
returns-then-stored-ge256 c =
    let none = taken_is _ _ c.edit_limits.ensures c.in_default.is in
    elim c.then-stored-ge256.branch [
      | then-stored-ge256-via-then-stored-ge256 w ↦ stored _ _ _ _ refl none w.if-stored-ge256.true
      | then-stored-ge256-via-else-stored-ge256+then-stored-tally-ge256 w ↦ stores _ _ _ _ refl none _ (w.tally.ensures ∙ ap (tallied c.args.self.messages) w.number.ensures) w.if-stored-tally-ge256.true
    ]

pub returns-then-self-ge64 : goal.returns-then-self-ge64
returns-then-self-ge64 c = full _ _ _ _ refl (taken_is _ _ c.edit_limits.ensures c.in_default.is) _ (c.tally.ensures ∙ ap (tallied c.args.self.messages) c.number.ensures) c.if-stored-tally-ge256.false c.if-self-ge64.true

pub returns : goal.returns
returns c = fine _ _ _ _ refl (taken_is _ _ c.edit_limits.ensures c.in_default.is) _ (c.tally.ensures ∙ ap (tallied c.args.self.messages) c.number.ensures) c.if-stored-tally-ge256.false c.if-self-ge64.false
