-- `tape::pool::fill` meets its contract. Assumes nothing.
use Rattle.tape.proofs.Pools.{Filled}
use Rattle.tape.proofs.pool.fill.Given as goal

abbrev pub invariant-loop-k : goal.invariant-loop-k
invariant-loop-k l = Filled l.initial.pool l.k l.pool
