use mathlib.Core.Path.{refl, sym, ◌∙◌}
use Rattle.standing.specs.Standings.{standing_in}
use Rattle.standing.proofs.standing_of.Goals as goal

pub returns-then-has : goal.returns-then-has
unfolding standing_in
returns-then-has c = rw (sym c.has.ensures ∙ c.if-has.true) refl

pub returns-then-has-2 : goal.returns-then-has-2
unfolding standing_in
returns-then-has-2 c = rw (sym c.has.ensures ∙ c.if-has.false, sym c.has-2.ensures ∙ c.if-has-2.true) refl

pub returns-then-has-3 : goal.returns-then-has-3
unfolding standing_in
returns-then-has-3 c =
    rw (sym c.has.ensures ∙ c.if-has.false, sym c.has-2.ensures ∙ c.if-has-2.false, sym c.has-3.ensures ∙ c.if-has-3.true) refl

pub returns : goal.returns
unfolding standing_in
returns c =
    rw (sym c.has.ensures ∙ c.if-has.false, sym c.has-2.ensures ∙ c.if-has-2.false, sym c.has-3.ensures ∙ c.if-has-3.false) refl
