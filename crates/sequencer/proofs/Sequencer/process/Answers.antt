-- `sequencer::Sequencer::process` meets its contract.
use Rattle.std.proofs.Common.{eq-eqb}
use Rattle.refusals.specs.Numbers.{refused_is, taken_is}
use Rattle.sequencer.specs.Outcomes.{not_zero}
use Rattle.sequencer.specs.Rendering.{blocks, block_outs}
use Rattle.sequencer.proofs.Sequencer.process.Goals as goal

pub returns-in-Some : goal.returns-in-Some
unfolding blocks block_outs
returns-in-Some c =
    let k = refused_is _ _ _ c.process_refusal-no.ensures c.in-Some.is in
    (rw (not_zero _ k.1, c.number.ensures, k.0), rw (not_zero _ k.1))

pub returns : goal.returns
unfolding blocks block_outs
returns c =
    let none = eq-eqb _ 0 (taken_is _ _ c.process_refusal-no.ensures c.in_default.is) in
    (rw none c.render_block.ensures.0, rw none c.render_block.ensures.1)
