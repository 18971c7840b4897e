-- `runs::phases` meets its contract. Assumes nothing.
use borrow.Author.Rules.{rules}
use borrow.Author.Tests.{not-true, not-false}
use mathlib.Core.Bool.{true, false}
use mathlib.Core.Path.{◌≡◌, ◌∙◌}
use lib.Ieee.{of_bits}
use Rattle.floats.specs.Arithmetic.{◌+ˢ◌, ◌-ˢ◌, oneᶠ}
use Rattle.runs.proofs.Adds.{zipped_others, length-made}
use Rattle.runs.proofs.Fades.{map_made}
use Rattle.runs.proofs.phases.Goals as goal

pub returns-then-not-slope : goal.returns-then-not-slope
unfolding of_bits
returns-then-not-slope c =
    let e = c.each_on_ramp.ensures.samples (λ a y. y) (λ a y x p. search rules) ∙ zipped_others _ _ (length-made _ _ _ _) in
    let flipped = c.each.ensures (λ y. oneᶠ -ˢ y) (λ a x p. search rules) in
    let down : c.args.slope.rising ≡ false = not-true _ c.if-not-slope.true in
    rw (down, flipped, e) (map_made (λ y. oneᶠ -ˢ y) (λ y. y) (λ y. y +ˢ c.args.slope.step) c.args.slope.phase _)

pub returns-else-not-slope : goal.returns-else-not-slope
returns-else-not-slope c =
    let e = c.each_on_ramp.ensures.samples (λ a y. y) (λ a y x p. search rules) ∙ zipped_others _ _ (length-made _ _ _ _) in
    let up : c.args.slope.rising ≡ true = not-false _ c.if-not-slope.false in
    rw up e
