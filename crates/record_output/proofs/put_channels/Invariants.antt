-- `record_output::put_channels` meets its contract. Assumes nothing.
use Prim.Native.Nat.{◌-◌}
use Rattle.record_output.specs.Lines.{row_piece}
use Rattle.record_output.proofs.Listed.{Adding}
use Rattle.record_output.proofs.put_channels.Given as goal

abbrev pub invariant-loop : goal.invariant-loop
invariant-loop l = Adding (row_piece l.form l.row) l.channels l.initial.out l.at l.out l.to (l.channels - l.counter)
