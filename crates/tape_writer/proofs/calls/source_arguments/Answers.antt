-- `tape_writer::calls::source_arguments` meets its contract. Assumes nothing.
use lib.Ieee.{of_bits}
use Rattle.tape_writer.proofs.calls.source_arguments.Goals as goal

pub returns-in-Held : goal.returns-in-Held
unfolding of_bits
returns-in-Held c = simp c.in-Held.is

pub returns-in-Ramp : goal.returns-in-Ramp
unfolding of_bits
returns-in-Ramp c = simp c.in-Ramp.is

pub returns-in-Clip : goal.returns-in-Clip
unfolding of_bits
returns-in-Clip c = simp c.in-Clip.is
