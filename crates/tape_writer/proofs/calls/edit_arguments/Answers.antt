-- `tape_writer::calls::edit_arguments` meets its contract. Assumes nothing.
use mathlib.Core.Path.{refl}
use lib.Ieee.{of_bits}
use Rattle.tape_writer.proofs.calls.edit_arguments.Goals as goal

pub returns : goal.returns
unfolding of_bits
returns c = refl
