-- `runs::fill_run` meets its contract. Assumes nothing.
use borrow.Author.Rules.{rules}
use mathlib.Core.Path.{◌∙◌}
use Rattle.runs.proofs.Adds.{zipped_others, length-made}
use Rattle.runs.proofs.fill_run.Goals as goal

pub returns : goal.returns
returns c = (
  c.each_of_source.ensures.samples (λ a y. y) (λ a y x p. search rules) ∙ zipped_others _ _ (length-made _ _ _ _),
  c.each_of_source.ensures.unit,
)
