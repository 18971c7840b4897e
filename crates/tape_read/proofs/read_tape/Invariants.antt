-- The buffer's length, and that `have` bytes are within it.
use Rattle.std.proofs.Common.{◌≡◌, ◌≤◌, length}
use Rattle.tape_read.proofs.read_tape.Given as goal

abbrev pub invariant-loop : goal.invariant-loop
invariant-loop g l = (length l.buf ≡ 65536) × (l.have ≤ 65536)
