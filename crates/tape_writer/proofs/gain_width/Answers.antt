-- `tape_writer::gain_width` meets its contract. Assumes nothing.
use mathlib.Core.Path.{sym, ◌∙◌}
use Rattle.tape_writer.proofs.gain_width.Goals as goal

pub returns-then-has_gain : goal.returns-then-has_gain
returns-then-has_gain c = simp (sym c.has_gain.ensures ∙ c.if-has_gain.true)

pub returns-else-has_gain : goal.returns-else-has_gain
returns-else-has_gain c = simp (sym c.has_gain.ensures ∙ c.if-has_gain.false)
