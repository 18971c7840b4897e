-- `runs::each_on_ramp` meets its contract. Assumes nothing.
use mathlib.Core.Path.{◌≡◌}
use lib.Ieee.{Float}
use Rattle.event.specs.Sources.{steps}
use Rattle.floats.specs.Arithmetic.{◌+ˢ◌}
use Rattle.runs.specs.Turns.{Turns}
use Rattle.runs.proofs.each_on_ramp.Given as goal

abbrev pub invariant-loop-a : goal.invariant-loop-a
invariant-loop-a g l = record {
  ramp : l.y ≡ steps (λ y. y +ˢ l.step) l.value l.a-index;
  samples : (h : Float → Float → Float) → ((a y x : Float) → goal.F-post g l.f a y x → x ≡ h a y)
      → Turns (λ y a. h a y) (λ y. y +ˢ l.step) l.value l.initial.s l.a-index l.y l.s;
}
