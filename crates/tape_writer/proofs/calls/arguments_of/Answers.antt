-- `tape_writer::calls::arguments_of` meets its contract. Assumes nothing.
use lib.Ieee.{of_bits}
use Rattle.tape_writer.proofs.calls.arguments_of.Goals as goal

pub returns-in-Create : goal.returns-in-Create
unfolding of_bits
returns-in-Create c = simp (c.in-Create.is, c.other_arguments.ensures, c.mode_number.ensures)

pub returns-in-Push : goal.returns-in-Push
returns-in-Push c = simp (c.in-Push.is, c.push_arguments.ensures)

pub returns-in-PushRelative : goal.returns-in-PushRelative
returns-in-PushRelative c = simp (c.in-PushRelative.is, c.push_arguments-in-PushRelative.ensures)

pub returns-in-PushDuration : goal.returns-in-PushDuration
returns-in-PushDuration c = simp (c.in-PushDuration.is, c.push_arguments-in-PushDuration.ensures)

pub returns-in-Edit : goal.returns-in-Edit
returns-in-Edit c = simp (c.in-Edit.is, c.edit_arguments.ensures)

pub returns-in-EditRelative : goal.returns-in-EditRelative
returns-in-EditRelative c = simp (c.in-EditRelative.is, c.edit_arguments-in-EditRelative.ensures)

pub returns-in-Tick : goal.returns-in-Tick
unfolding of_bits
returns-in-Tick c = simp (c.in-Tick.is, c.other_arguments-in-Tick.ensures)

pub returns-in-Process : goal.returns-in-Process
unfolding of_bits
returns-in-Process c = simp (c.in-Process.is, c.other_arguments-in-Process.ensures)

pub returns-in-Reset : goal.returns-in-Reset
unfolding of_bits
returns-in-Reset c = simp (c.in-Reset.is, c.other_arguments-in-Reset.ensures)

pub returns-in-SetSampleRate : goal.returns-in-SetSampleRate
unfolding of_bits
returns-in-SetSampleRate c = simp (c.in-SetSampleRate.is, c.other_arguments-in-SetSampleRate.ensures)
