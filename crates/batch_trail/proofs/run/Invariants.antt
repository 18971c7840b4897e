use Rattle.std.proofs.Common.{◌≡◌, length, rules}
use Rattle.batch_trail.proofs.run.Given as goal

abbrev pub invariant-loop : goal.invariant-loop
invariant-loop g l = (length l.samples ≡ 512) × (length l.given ≡ 64)
