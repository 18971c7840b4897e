-- `runs::each` meets its contract. Assumes nothing.
use mathlib.Core.Path.{◌∙◌}
use native.Mathlib.Omega.{arith}
use lib.Ieee.{nan}
use Rattle.runs.specs.Turns.{start, turn, done}
use Rattle.runs.proofs.Walks.{walk_map}
use Rattle.runs.proofs.each.Goals as goal

pub loop-a-init : goal.loop-a-init
loop-a-init g c = λ h p. start _ _ _ _

pub loop-a-preserved : goal.loop-a-preserved
loop-a-preserved g c = λ h p.
    let e = p _ _ c.f.ensures in
    rw e (turn _ _ _ _ nan (c.loop-a.invariant h p) (omega (arith, c.loop-a.auto.s, c.loop-a-test.true)))

pub returns : goal.returns
returns g c = λ h p. done _ _ _ _ (c.loop-a.invariant h p) (omega (arith, c.loop-a.auto.s, c.loop-a-test.false)) ∙ walk_map h _
