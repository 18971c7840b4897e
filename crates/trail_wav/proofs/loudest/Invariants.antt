use Rattle.std.proofs.Common.{◌≤◌, length}
use Rattle.trail_wav.proofs.loudest.Given as goal

abbrev pub invariant-loop : goal.invariant-loop
invariant-loop l = l.from ≤ length l.samples
