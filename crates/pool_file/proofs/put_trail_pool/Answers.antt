use Rattle.std.proofs.Common.{◌≡◌, refl, sym, ap, ◌∙◌, ◌++◌, ◌≤◌, ℕ, List, Float, length, drop, length-take-le}
use borrow.Author.Tests.{lt-ltb, le-ltb}
use Rattle.tape.specs.Pool.{trail_pool, pool-ends}
use Rattle.pool_file.specs.Pools.{trail_loaded, with_trail_pool}
use Rattle.pool_file.proofs.put_trail_pool.Goals as goal

-- with room, the pool's front is replaced
put : (p : List Float) {xs : List Float} → xs ≡ trail_pool → 4_096 ≤ length p → xs ++ drop 4_096 p ≡ with_trail_pool p
unfolding with_trail_pool
put p {xs} e h = ap (λ (x : List Float). x ++ drop 4_096 p) e ∙ sym (rw (le-ltb (length p) 4_096 h) refl)

pub copy_from_slice-requires : goal.copy_from_slice-requires
copy_from_slice-requires c = length-take-le 4_096 _ c.if-pool-lt4096.false ∙ sym pool-ends.0 ∙ sym (ap length c.trail_pool-samples.ensures)

pub returns-then-pool-lt4096-clause-value : goal.returns-then-pool-lt4096-clause-value
unfolding trail_loaded
returns-then-pool-lt4096-clause-value c = sym (rw (lt-ltb _ _ c.if-pool-lt4096.true) refl)

pub returns-then-pool-lt4096-clause-pool_after : goal.returns-then-pool-lt4096-clause-pool_after
unfolding with_trail_pool
returns-then-pool-lt4096-clause-pool_after c = sym (rw (lt-ltb _ _ c.if-pool-lt4096.true) refl)

pub returns-clause-value : goal.returns-clause-value
unfolding trail_loaded
returns-clause-value c = sym (rw (le-ltb _ _ c.if-pool-lt4096.false) refl)

pub returns-clause-pool_after : goal.returns-clause-pool_after
returns-clause-pool_after c = put _ (c.copy_from_slice.ensures.after ∙ c.trail_pool-samples.ensures) c.if-pool-lt4096.false
