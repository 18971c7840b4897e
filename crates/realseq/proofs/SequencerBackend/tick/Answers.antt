-- `realseq::SequencerBackend::tick` meets its contract.
use Rattle.std.proofs.Common.{arith, refl, ◌≡◌, List, ap, ◌∙◌}
use lib.Ieee.{Float}
use Rattle.event.specs.declared.MixOrder.{MixOrder}
use Rattle.refusals.specs.Numbers.{refused_is, taken_is}
use Rattle.sequencer.specs.declared.Outcome as Engine
use Rattle.sequencer.specs.Answers as Engines
use Rattle.sequencer.specs.Rendering.{rendered_tick, rendered_tick_out}
use Rattle.realseq.specs.Answers.{as_desk, accepts}
use Rattle.realseq.specs.declared.SequencerBackend.{SequencerBackend}
use Rattle.realseq.specs.declared.Outcome.{Outcome}
use Rattle.realseq.specs.Handling.{past_sent, drained}
use Rattle.realseq.specs.Backs.{with_engine, stepped_to, ticks, tick_outs}
use Rattle.realseq.proofs.Choices.{refused, done, unheard, heard}
use Rattle.realseq.proofs.SequencerBackend.tick.Goals as goal

module _ (order : MixOrder) (pool : List Float) (d e : SequencerBackend) (h : e ≡ drained d) where
  -- r is the engine's outcome, and o the desk's
  stepped : (r : Engine.Outcome) (o : Outcome) → r ≡ Engines.accepts (rendered_tick order pool e.sequencer) → o ≡ stepped_to e r
      → o ≡ accepts (past_sent (with_engine (drained d) (rendered_tick order pool (drained d).sequencer)))
  unfolding as_desk
  stepped r o q g = g ∙ ap (stepped_to e) q ∙ ap (λ (b : SequencerBackend). accepts (past_sent (with_engine b (rendered_tick order pool b.sequencer)))) h

  sounded : (out o : List Float) → o ≡ rendered_tick_out order pool e.sequencer out → o ≡ rendered_tick_out order pool (drained d).sequencer out
  sounded out o q = q ∙ ap (λ (b : SequencerBackend). rendered_tick_out order pool b.sequencer out) h

pub returns-in-Some : goal.returns-in-Some
unfolding ticks tick_outs
returns-in-Some c =
    let r = refused_is _ _ _ c.tick_refusal.ensures c.in-Some.is in
    let e = c.number.ensures ∙ r.0 in
    let some : c.number.result ≡ 0 → ⊥ = λ z. omega (arith, r.1, e, z) in
    (refused _ _ e _ _ some, unheard _ _ e _ _ some)

pub returns : goal.returns
unfolding ticks tick_outs
returns c =
    let a = c.args in
    let none = taken_is _ _ c.tick_refusal.ensures c.in_default.is in (
      done _ _ refl _ _ _ none (stepped a.order a.pool.now a.self c.drain-d.result c.drain-d.ensures _ _ c.render_tick-r.ensures.0 c.after_step.ensures),
      heard _ _ refl a.out.now _ _ none (sounded a.order a.pool.now a.self c.drain-d.result c.drain-d.ensures a.out.now _ c.render_tick-r.ensures.1),
    )
