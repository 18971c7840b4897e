-- `preview::preview` meets its contract: the loop walks the run (`runs.specs.Turns`). Assumes nothing.
use borrow.Author.Tests.{le-leb}
use mathlib.Core.Path.{refl, sym}
use native.Mathlib.Omega.{arith}
use native.Mathlib.Nat.{add_assoc, add-zero}
use lib.Ieee.{nan}
use Rattle.runs.specs.Turns.{start, turn, done}
use Rattle.preview.proofs.preview.Goals as goal

pub loop-i-init : goal.loop-i-init
loop-i-init c = rw (add-zero c.args.first) (start _ _ _ _)

pub loop-i-preserved : goal.loop-i-preserved
loop-i-preserved c =
    rw (c.gain.ensures, sym (add_assoc c.args.first c.loop-i.i 1))
    (turn _ _ _ _ nan c.loop-i.invariant (omega (arith, c.loop-i.auto.run, c.loop-i-test.true)))

pub returns : goal.returns
returns c = rw (le-leb c.args.first 1024 (omega arith)) (refl, done _ _ _ _ c.loop-i.invariant (omega (arith, c.loop-i.auto.run, c.loop-i-test.false)))
