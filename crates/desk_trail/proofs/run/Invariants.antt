-- `desk_trail::run` is safe and ends: the invariant is the output's length, and that the pool lent is within the whole. Assumes nothing.
use Rattle.std.proofs.Common.{◌≡◌, ◌≤◌, length, rules}
use Rattle.desk_trail.proofs.run.Given as goal

abbrev pub invariant-loop : goal.invariant-loop
invariant-loop g l = (length l.samples ≡ 576) × (l.pool ≤ length l.whole)
