-- `sequencer::Sequencer::set_sample_rate` meets its contract. Assumes nothing.
use Rattle.std.proofs.Common.{eq-eqb}
use Rattle.refusals.specs.Numbers.{refused_is, taken_is}
use Rattle.sequencer.specs.Resets.{rates}
use Rattle.sequencer.specs.Outcomes.{not_zero}
use Rattle.sequencer.proofs.Sequencer.set_sample_rate.Goals as goal

pub returns-in-Some : goal.returns-in-Some
unfolding rates
returns-in-Some c =
    let k = refused_is _ _ _ c.rate_refusal.ensures c.in-Some.is in
    rw (not_zero _ k.1, c.number.ensures, k.0)

pub returns : goal.returns
unfolding rates
returns c = rw (eq-eqb _ 0 (taken_is _ _ c.rate_refusal.ensures c.in_default.is), c.change_rate.ensures)
