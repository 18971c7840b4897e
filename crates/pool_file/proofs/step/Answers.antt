-- Whatever ends it, what was put stands behind what was there.
use Rattle.pool_file.proofs.Gathering.{put_fills}
use Rattle.pool_file.proofs.step.Goals as goal

pub returns-then-n-k : goal.returns-then-n-k
returns-then-n-k g c = put_fills _ _ c.requires (c.put-k.ensures.bound, c.put-k.ensures.lent) tt

pub returns : goal.returns
returns g c = put_fills _ _ c.requires (c.put-k.ensures.bound, c.put-k.ensures.lent) c.more.ensures
