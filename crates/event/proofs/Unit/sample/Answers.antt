-- `event::Unit::sample` meets its contract. Assumes nothing.
use Rattle.std.proofs.Common.{sym, le-ltb, lt-ltb}
use lib.Ieee.{nan, of_bits}
use lib.ListN.{get_or-eq_default}
use Rattle.floats.specs.Arithmetic.{zeroᶠ}
use Rattle.event.specs.Runs.{get_or_in}
use Rattle.event.proofs.Unit.sample.Goals as goal

-- within clip and pool, past the pool, past the clip
pub returns-then-at-pool : goal.returns-then-at-pool
returns-then-at-pool c = rw (c.in-Clip.is, lt-ltb _ _ c.if-self-length.true) (get_or_in c.args.pool.now _ nan zeroᶠ c.if-at-pool.true)

pub returns-else-at-pool : goal.returns-else-at-pool
unfolding of_bits
returns-else-at-pool c = rw (c.in-Clip.is, lt-ltb _ _ c.if-self-length.true) (sym (get_or-eq_default c.args.pool.now _ c.if-at-pool.false))

pub returns-else-self-length : goal.returns-else-self-length
unfolding of_bits
returns-else-self-length c = rw (c.in-Clip.is, le-ltb _ _ c.if-self-length.false)
