-- `fill`: what stands in the pool so far.
use Rattle.pool_file.proofs.Gathering.{Going}
use Rattle.pool_file.proofs.fill.Given as goal

abbrev pub invariant-loop : goal.invariant-loop
invariant-loop g l = Going l.initial.pool l.fn.start.count l.pool l.s
