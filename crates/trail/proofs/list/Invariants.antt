-- The lengths of the two buffers, and that `have` bytes are within the first.
use Rattle.std.proofs.Common.{◌≡◌, ◌≤◌, length}
use Rattle.trail.proofs.list.Given as goal

abbrev pub invariant-loop : goal.invariant-loop
invariant-loop g l = (length l.buf ≡ 65536) × (l.have ≤ 65536) × (length l.text ≡ 65536)
