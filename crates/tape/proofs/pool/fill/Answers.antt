-- `tape::pool::fill` meets its contract. Assumes nothing.
use Rattle.std.proofs.Common.{◌<◌, ◌≤◌, ℕ, subst, sym}
use Rattle.tape.proofs.Pools.{start, turn, done}
use Rattle.tape.proofs.pool.fill.Goals as goal

pub loop-k-init : goal.loop-k-init
loop-k-init c = start _

pub loop-k-preserved : goal.loop-k-preserved
loop-k-preserved c =
    let f = c.loop-k.invariant in
    turn _ f (subst (λ (n : ℕ). c.loop-k.k < n) (sym f.long) c.loop-k-test.true) _ c.sample.ensures

pub returns : goal.returns
returns c =
    let f = c.loop-k.invariant in
    done _ f (subst (λ (n : ℕ). n ≤ c.loop-k.k) (sym f.long) c.loop-k-test.false)
