-- `sequencer::Sequencer::tick` meets its contract.
use Rattle.std.proofs.Common.{eq-eqb}
use Rattle.refusals.specs.Numbers.{refused_is, taken_is}
use Rattle.sequencer.specs.Outcomes.{not_zero}
use Rattle.sequencer.specs.Rendering.{ticks, tick_outs}
use Rattle.sequencer.proofs.Sequencer.tick.Goals as goal

pub returns-in-Some : goal.returns-in-Some
unfolding ticks tick_outs
returns-in-Some c =
    let k = refused_is _ _ _ c.tick_refusal-no.ensures c.in-Some.is in
    (rw (not_zero _ k.1, c.number.ensures, k.0), rw (not_zero _ k.1))

pub returns : goal.returns
unfolding ticks tick_outs
returns c =
    let none = eq-eqb _ 0 (taken_is _ _ c.tick_refusal-no.ensures c.in_default.is) in
    (rw none c.render_tick.ensures.0, rw none c.render_tick.ensures.1)
