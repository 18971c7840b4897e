-- `runs::each_along` meets its contract. Assumes nothing.
use mathlib.Core.Path.{◌∙◌}
use native.Mathlib.Omega.{arith}
use lib.Ieee.{nan}
use Rattle.runs.specs.Turns.{start, turn, done}
use Rattle.runs.proofs.Walks.{walk_zipped}
use Rattle.runs.proofs.each_along.Goals as goal

pub loop-i-init : goal.loop-i-init
loop-i-init g c = λ h p. start _ _ _ _

pub loop-i-preserved : goal.loop-i-preserved
loop-i-preserved g c = λ h p.
    let e = p _ _ _ c.f.ensures in
    rw e (turn _ _ _ _ nan (c.loop-i.invariant h p) (omega (arith, c.loop-i.auto.s, c.loop-i-test.true)))

pub returns : goal.returns
returns g c = λ h p.
    done _ _ _ _ (c.loop-i.invariant h p) (omega (arith, c.loop-i.auto.s, c.loop-i-test.false)) ∙ walk_zipped h nan _ _ c.requires.there
