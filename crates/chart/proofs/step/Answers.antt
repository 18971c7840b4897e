use Rattle.std.proofs.Common.{◌≡◌, drop, sym, ap, ◌∙◌, arith}
use Rattle.chart.specs.Scale.{steps, step_in}
use Rattle.chart.proofs.Numbers.{step_here, step_on}
use Rattle.chart.proofs.step.Goals as goal

pub returns-then-total-s : goal.returns-then-total-s
returns-then-total-s c = step_here steps c.loop-s.s-index c.args.total c.loop-s-test.true c.if-total-s.true ∙ c.loop-s.invariant

pub loop-s-preserved : goal.loop-s-preserved
loop-s-preserved c = sym (step_on steps c.loop-s.s-index c.args.total c.loop-s-test.true c.if-total-s.false) ∙ c.loop-s.invariant

pub returns : goal.returns
unfolding step_in
returns c =
    let z : c.loop-s.s-index ≡ 35 = omega (arith, c.loop-s-test.false, c.loop-s.auto.s-index-end) in
    ap (λ j. step_in (drop j steps) c.args.total) (sym z) ∙ c.loop-s.invariant
