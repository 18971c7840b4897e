use Rattle.std.proofs.Common.{arith}
use Rattle.lodge.proofs.Scan.{room, no_room, nowhere}
use Rattle.lodge.proofs.first_from.Goals as goal
use Rattle.lodge.proofs.first_from.Goals.{else-start-w-via-then-start-w+else-length-w, else-start-w-via-else-start-w}

pub returns-then-length-w : goal.returns-then-length-w
returns-then-length-w c =
    rw c.max-start.ensures (room _ _ _ _ _ c.loop-w-test.true c.loop-w.invariant (omega (arith, c.max-start.ensures, c.if-start-w.true, c.if-length-w.true)))

pub loop-w-preserved : goal.loop-w-preserved
loop-w-preserved c =
    no_room _ _ _ _ _ c.loop-w-test.true c.loop-w.invariant
    (elim c.else-start-w.branch [
      | else-start-w-via-then-start-w+else-length-w w ↦ omega (arith, c.max-start.ensures)
      | else-start-w-via-else-start-w w ↦ omega (arith, c.max-start.ensures)
    ])

pub returns : goal.returns
returns c = nowhere _ _ _ _ _ c.loop-w-test.false c.loop-w.invariant
