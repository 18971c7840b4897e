-- `runs::add_source` meets its contract. Assumes nothing.
use borrow.Author.Rules.{rules}
use mathlib.Core.Path.{◌∙◌, sym, ap}
use mathlib.Core.List.{List}
use lib.Ieee.{Float}
use lib.ListN.{length, replicate}
use Rattle.floats.specs.Arithmetic.{◌+ˢ◌, ◌×ˢ◌}
use Rattle.runs.specs.Samples.{added}
use Rattle.runs.proofs.Given.{held_given, held_after}
use Rattle.runs.proofs.Adds.{zipped_added, zipped_level}
use Rattle.runs.proofs.add_source.Goals as goal

pub returns-in-Held : goal.returns-in-Held
returns-in-Held c =
    let a = c.args in
    let g = a.gain in
    let l = a.s.now in
    let v = c.in-Held.level in
    let given = held_given a.pool.now a.unit v c.in-Held.is (length l) in (
      c.each.ensures (λ b. b +ˢ (v ×ˢ g)) (λ b x p. search rules) ∙ zipped_level (λ b y. b +ˢ (y ×ˢ g)) v l
          ∙ zipped_added g (replicate (length l) v) l ∙ ap (λ (r : List Float). added g r l) (sym given),
      sym (held_after a.pool.now a.unit v c.in-Held.is (length l)),
    )

pub returns-in_default : goal.returns-in_default
returns-in_default c = (
  c.each_of_source.ensures.samples (λ a y. a +ˢ (y ×ˢ c.args.gain)) (λ a y x p. search rules) ∙ zipped_added _ _ _,
  c.each_of_source.ensures.unit,
)
