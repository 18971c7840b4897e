-- `runs::each_along` meets its contract. Assumes nothing.
use mathlib.Core.Path.{◌≡◌}
use Prim.Native.Nat.{◌+◌}
use lib.Ieee.{Float, nan}
use lib.ListN.{get_or}
use Rattle.runs.specs.Turns.{Turns}
use Rattle.runs.proofs.each_along.Given as goal

abbrev pub invariant-loop-i : goal.invariant-loop-i
invariant-loop-i g l =
    (h : Float → Float → Float) → ((a y x : Float) → goal.F-post g l.f a y x → x ≡ h a y)
    → Turns (λ k a. h a (get_or l.xs k nan)) (λ k. k + 1) 0 l.initial.s l.i l.i l.s
