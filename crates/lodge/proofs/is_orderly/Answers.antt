use Rattle.std.proofs.Common.{arith}
use Rattle.lodge.proofs.Scan.{wrong, passed, all-passed}
use Rattle.lodge.proofs.is_orderly.Goals as goal

pub returns-then-opens-last : goal.returns-then-opens-last
returns-then-opens-last c = wrong _ _ _ _ c.loop-w-test.true c.loop-w.invariant c.then-opens-last.either

pub loop-w-preserved : goal.loop-w-preserved
loop-w-preserved c = passed _ _ _ _ c.loop-w-test.true c.loop-w.invariant c.if-opens-last.false c.if-closes-opens.false (omega arith)

pub returns : goal.returns
returns c = all-passed _ _ _ _ c.loop-w-test.false c.loop-w.invariant
