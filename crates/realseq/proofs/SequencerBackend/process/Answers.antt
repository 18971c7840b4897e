-- `realseq::SequencerBackend::process` meets its contract.
use Rattle.std.proofs.Common.{arith, refl, ◌≡◌, ℕ, List, ap, ◌∙◌}
use lib.Ieee.{Float}
use Rattle.event.specs.declared.MixOrder.{MixOrder}
use Rattle.refusals.specs.Numbers.{refused_is, taken_is}
use Rattle.sequencer.specs.declared.Outcome as Engine
use Rattle.sequencer.specs.Outcomes as Engines
use Rattle.sequencer.specs.Rendering.{rendered_block, rendered_places, rendered_block_out}
use Rattle.realseq.specs.Answers.{as_desk, renders}
use Rattle.realseq.specs.declared.SequencerBackend.{SequencerBackend}
use Rattle.realseq.specs.declared.Outcome.{Outcome}
use Rattle.realseq.specs.Handling.{past_sent, drained}
use Rattle.realseq.specs.Backs.{with_engine, stepped_to, blocks, block_outs}
use Rattle.realseq.proofs.Choices.{refused, done, unheard, heard}
use Rattle.realseq.proofs.SequencerBackend.process.Goals as goal

module _ (order : MixOrder) (pool : List Float) (n : ℕ) (d e : SequencerBackend) (h : e ≡ drained d) where
  -- r is the engine's outcome, and o the desk's
  stepped : (r : Engine.Outcome) (o : Outcome) → r ≡ Engines.renders (rendered_block order pool n e.sequencer) (rendered_places order n e.sequencer) → o ≡ stepped_to e r
      → o ≡ renders (rendered_places order n (drained d).sequencer) (past_sent (with_engine (drained d) (rendered_block order pool n (drained d).sequencer)))
  unfolding as_desk
  stepped r o q g = g ∙ ap (stepped_to e) q ∙ ap (λ (b : SequencerBackend). renders (rendered_places order n b.sequencer) (past_sent (with_engine b (rendered_block order pool n b.sequencer)))) h

  sounded : (out o : List Float) → o ≡ rendered_block_out order pool n e.sequencer out → o ≡ rendered_block_out order pool n (drained d).sequencer out
  sounded out o q = q ∙ ap (λ (b : SequencerBackend). rendered_block_out order pool n b.sequencer out) h

pub returns-in-Some : goal.returns-in-Some
unfolding blocks block_outs
returns-in-Some c =
    let r = refused_is _ _ _ c.process_refusal.ensures c.in-Some.is in
    let e = c.number.ensures ∙ r.0 in
    let some : c.number.result ≡ 0 → ⊥ = λ z. omega (arith, r.1, e, z) in
    (refused _ _ e _ _ some, unheard _ _ e _ _ some)

pub returns : goal.returns
unfolding blocks block_outs
returns c =
    let a = c.args in
    let none = taken_is _ _ c.process_refusal.ensures c.in_default.is in (
      done _ _ refl _ _ _ none (stepped a.order a.pool.now a.size a.self c.drain-d.result c.drain-d.ensures _ _ c.render_block-r.ensures.0 c.after_step.ensures),
      heard _ _ refl a.out.now _ _ none (sounded a.order a.pool.now a.size a.self c.drain-d.result c.drain-d.ensures a.out.now _ c.render_block-r.ensures.1),
    )
