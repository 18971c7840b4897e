-- `listing::spaced_length` meets its contract: the loop's invariant is `Measured`. Assumes nothing.
use native.Mathlib.Omega.{arith}
use Rattle.listing.proofs.Lines.{measure_next, measured}
use Rattle.listing.proofs.spaced_length.Goals as goal

pub loop-n-init : goal.loop-n-init
loop-n-init c = record { rest = omega arith; most = omega arith; within = omega arith }

pub loop-n-preserved : goal.loop-n-preserved
loop-n-preserved c = measure_next c.loop-n.invariant c.loop-n-test.true c.places.result c.places.ensures.value c.places.ensures.upper_bound

pub returns : goal.returns
returns c = record { value = measured c.loop-n.invariant c.loop-n-test.false; upper_bound = let m = c.loop-n.invariant.most in let w = c.loop-n.invariant.within in omega arith }
