use Rattle.tape.specs.Pool.{trail_pool}
use Rattle.std.proofs.Common.{rules}
use Rattle.tape.proofs.pool.trail_pool.Goals as goal

pub returns : goal.returns
unfolding trail_pool
returns c = search rules
