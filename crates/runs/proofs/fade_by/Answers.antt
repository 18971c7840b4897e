-- `runs::fade_by` meets its contract. Assumes nothing.
use borrow.Author.Rules.{rules}
use mathlib.Core.Path.{◌∙◌}
use Rattle.event.specs.Fades.{curve}
use Rattle.floats.specs.Arithmetic.{◌×ˢ◌}
use Rattle.runs.proofs.Fades.{two-passes}
use Rattle.runs.proofs.fade_by.Goals as goal

pub returns : goal.returns
returns c =
    c.each_along.ensures (λ a y. a ×ˢ curve c.args.slope.ease y) (λ a y x p. search rules)
    ∙ rw (c.phases.ensures, ← c.requires) (two-passes c.args.slope.ease c.args.slope.rising c.args.slope.phase c.args.slope.step c.args.s.now)
