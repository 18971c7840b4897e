-- `runs::copy_rows` meets its contract. Assumes nothing.
use Prim.Native.Nat.{◌*◌}
use Rattle.runs.proofs.Rows.{Rows}
use Rattle.runs.proofs.copy_rows.Given as goal

abbrev pub invariant-loop-channel : goal.invariant-loop-channel
invariant-loop-channel l = Rows l.run l.initial.out (64 * l.channel) l.out
