-- `tape_writer::calls::push_arguments` meets its contract. Assumes nothing.
use lib.Ieee.{of_bits}
use Rattle.tape_writer.proofs.calls.push_arguments.Goals as goal

pub returns : goal.returns
unfolding of_bits
returns c = simp (c.source_arguments-s.ensures, c.curve_number-c.ensures)
