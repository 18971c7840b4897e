use lib.ListN.{length}
use Rattle.little_endian.proofs.Steps.{Fields}
use Rattle.little_endian.proofs.put_fields.Given as goal

abbrev pub invariant-loop-width : goal.invariant-loop-width
invariant-loop-width l = Fields l.widths l.numbers l.initial.out l.out l.at (length l.yielded)
