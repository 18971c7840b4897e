use Rattle.pool_file.specs.Loading.{trail_loads}
use Rattle.tape_pages.proofs.load.Goals as goal

pub returns-in_default-clause-lent : goal.returns-in_default-clause-lent
returns-in_default-clause-lent g c = trail_loads _ c.put_trail_pool.ensures.value c.put_trail_pool.ensures.pool_after
