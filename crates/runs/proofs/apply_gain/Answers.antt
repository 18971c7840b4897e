-- `runs::apply_gain` meets its contract. Assumes nothing.
use borrow.Author.Rules.{rules}
use Rattle.floats.specs.Arithmetic.{◌×ˢ◌}
use Rattle.runs.proofs.apply_gain.Goals as goal

pub returns : goal.returns
returns c = c.each.ensures (λ a. a ×ˢ c.args.gain) (λ a x p. search rules)
