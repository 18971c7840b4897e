-- `sequencer::Sequencer::mix_tick` meets its contract.
use Rattle.std.proofs.Common.{refl, ap, ap₂}
use lib.Ieee.{Float, of_bits}
use Rattle.floats.specs.Arithmetic.{◌+ˢ◌}
use Rattle.sequencer.specs.declared.Sequencer.{Sequencer}
use Rattle.sequencer.specs.Rendering.{tick_pass}
use Rattle.sequencer.specs.Passing.{passing_start, passing_on, passing_end}
use Rattle.sequencer.proofs.Sequencer.mix_tick.Goals as goal

pub loop-i-init : goal.loop-i-init
unfolding of_bits
loop-i-init c = passing_start c.min-m.ensures refl

pub loop-i-preserved : goal.loop-i-preserved
loop-i-preserved c =
    let p = c.before.before.before in
    let l = p.loop-i in
    passing_on p.mix_place-place.ensures.0 c.after_tick.ensures (ap (λ (x : Float). l.sum +ˢ x) c.tick_sample-sum.ensures) p.loop-i-test.true l.invariant

pub returns : goal.returns
unfolding tick_pass
returns c =
    let w = passing_end refl c.loop-i-test.false c.loop-i.invariant in
    ap₂ (λ (s : Sequencer) (x : Float). record { sequencer = s; sum = x }) w.0 w.1
