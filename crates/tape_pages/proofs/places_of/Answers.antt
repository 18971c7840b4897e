use Rattle.std.proofs.Common.{refl, sym, ◌∙◌}
use borrow.Author.Tests.{eq-eqb, ne_eqb}
use Rattle.tape_pages.specs.Arguments.{places_of}
use Rattle.tape_pages.proofs.places_of.Goals as goal

pub returns-then-is_option : goal.returns-then-is_option
unfolding places_of
returns-then-is_option c = rw (eq-eqb _ _ c.if-count-eq2.true, sym c.is_option.ensures ∙ c.if-is_option.true) refl

pub returns-then-count-eq2 : goal.returns-then-count-eq2
unfolding places_of
returns-then-count-eq2 c = rw (eq-eqb _ _ c.if-count-eq2.true, sym c.is_option.ensures ∙ c.if-is_option.false) refl

pub returns-then-count-ne4 : goal.returns-then-count-ne4
unfolding places_of
returns-then-count-ne4 c = rw (ne_eqb _ _ c.if-count-eq2.false, ne_eqb _ _ c.if-count-ne4.true) refl

pub returns-then-is_option-2 : goal.returns-then-is_option-2
unfolding places_of
returns-then-is_option-2 c = rw (ne_eqb _ _ c.if-count-eq2.false, eq-eqb _ _ c.if-count-ne4.false, sym c.is_option-2.ensures ∙ c.if-is_option-2.true) refl

pub returns-then-is_option-3 : goal.returns-then-is_option-3
unfolding places_of
returns-then-is_option-3 c =
    rw (
      ne_eqb _ _ c.if-count-eq2.false,
      eq-eqb _ _ c.if-count-ne4.false,
      sym c.is_option-2.ensures ∙ c.if-is_option-2.false,
      sym c.is_option-3.ensures ∙ c.if-is_option-3.true,
    ) refl

pub returns : goal.returns
unfolding places_of
returns c =
    rw (
      ne_eqb _ _ c.if-count-eq2.false,
      eq-eqb _ _ c.if-count-ne4.false,
      sym c.is_option-2.ensures ∙ c.if-is_option-2.false,
      sym c.is_option-3.ensures ∙ c.if-is_option-3.false,
    ) refl
