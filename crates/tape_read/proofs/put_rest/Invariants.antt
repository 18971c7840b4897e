-- What is at hand is within the buffer.
use Rattle.std.proofs.Common.{◌≤◌, length}
use Rattle.tape_read.proofs.put_rest.Given as goal

abbrev pub invariant-loop : goal.invariant-loop
invariant-loop g l = l.n ≤ length l.buf
