-- `runs::set_all` meets its contract. Assumes nothing.
use borrow.Author.Rules.{rules}
use mathlib.Core.Path.{◌∙◌}
use Rattle.runs.proofs.Walks.{map_same}
use Rattle.runs.proofs.set_all.Goals as goal

pub returns : goal.returns
returns c = c.each.ensures (λ a. c.args.x) (λ a x p. search rules) ∙ map_same c.args.x c.args.s.now
