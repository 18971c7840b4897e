use Rattle.rises.proofs.Laying.{Laying}
use Rattle.rises.proofs.lay.Given as goal

-- the buffer at the loop's beginning has the first record
abbrev pub invariant-loop-k : goal.invariant-loop-k
invariant-loop-k l = Laying l.n l.initial.buf l.buf l.at l.k
