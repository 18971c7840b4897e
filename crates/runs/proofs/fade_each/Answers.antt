-- `runs::fade_each` meets its contract. Assumes nothing.
use borrow.Author.Rules.{rules}
use mathlib.Core.Path.{◌∙◌}
use Rattle.event.specs.Fades.{curve}
use Rattle.floats.specs.Arithmetic.{◌×ˢ◌}
use Rattle.runs.specs.Samples.{facing}
use Rattle.runs.proofs.Fades.{on_ramp}
use Rattle.runs.proofs.fade_each.Goals as goal

pub returns : goal.returns
returns c =
    c.each_on_ramp.ensures.samples (λ a y. a ×ˢ curve c.args.slope.ease (facing c.args.slope.rising y)) (λ a y x p. search rules) ∙ on_ramp _ _ _ _ _
