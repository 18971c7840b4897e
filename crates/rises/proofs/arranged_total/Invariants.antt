use Rattle.rises.proofs.Arranging.{Arranging}
use Rattle.rises.proofs.arranged_total.Given as goal

abbrev pub invariant-loop-k : goal.invariant-loop-k
invariant-loop-k l = Arranging l.n l.s l.total l.k
