-- `runs::each_on_ramp` meets its contract. Assumes nothing.
use mathlib.Core.Path.{◌≡◌, refl, sym, ap, ◌∙◌}
use native.Mathlib.Nat.{le_antisymm}
use native.Mathlib.Omega.{arith}
use Prim.Native.Nat.{ℕ}
use lib.Ieee.{Float, nan}
use lib.ListN.{length}
use Rattle.event.specs.Sources.{steps}
use Rattle.floats.specs.Arithmetic.{◌+ˢ◌}
use Rattle.runs.specs.Turns.{start, turn, done}
use Rattle.runs.proofs.Walks.{walk_on, steps-more}
use Rattle.runs.proofs.each_on_ramp.Goals as goal

pub loop-a-init : goal.loop-a-init
unfolding steps
loop-a-init g c = record { ramp = refl; samples = λ h p. start _ _ _ _ }

pub loop-a-preserved : goal.loop-a-preserved
loop-a-preserved g c = record {
  ramp = ap (λ (y : Float). y +ˢ c.args.step) c.loop-a.invariant.ramp ∙ sym (steps-more (λ y. y +ˢ c.args.step) c.args.value c.loop-a.a-index);
  samples = λ h p.
      let e = p _ _ _ c.f.ensures in
      rw e (turn _ _ _ _ nan (c.loop-a.invariant.samples h p) (omega (arith, c.loop-a.auto.s, c.loop-a-test.true)));
}

pub returns-clause-samples : goal.returns-clause-samples
returns-clause-samples g c = λ h p.
    done _ _ _ _ (c.loop-a.invariant.samples h p) (omega (arith, c.loop-a.auto.s, c.loop-a-test.false)) ∙ walk_on h _ _ _

pub returns-clause-value : goal.returns-clause-value
returns-clause-value g c =
    let e : c.loop-a.a-index ≡ length c.args.s.now = le_antisymm c.loop-a.auto.a-index-end c.loop-a-test.false in
    c.loop-a.invariant.ramp ∙ ap (λ (k : ℕ). steps (λ y. y +ˢ c.args.step) c.args.value k) e
