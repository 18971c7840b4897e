-- The buffers' lengths, and that `have` bytes are within the tape's.
use Rattle.std.proofs.Common.{◌≡◌, ◌≤◌, length}
use Rattle.trail_wav.proofs.roll.Given as goal

abbrev pub invariant-loop : goal.invariant-loop
invariant-loop g l = (length l.buf ≡ 65536) × (l.have ≤ 65536) × (length l.samples ≡ 512) × (length l.«data» ≡ 65536)
