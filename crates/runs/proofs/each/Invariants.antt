-- `runs::each` meets its contract. Assumes nothing.
use mathlib.Core.Path.{◌≡◌}
use Prim.Native.Nat.{ℕ}
use lib.Ieee.{Float}
use Rattle.runs.specs.Turns.{Turns}
use Rattle.runs.proofs.each.Given as goal

abbrev pub invariant-loop-a : goal.invariant-loop-a
invariant-loop-a g l =
    (h : Float → Float) → ((a x : Float) → goal.F-post g l.f a x → x ≡ h a)
    → Turns (λ (k : ℕ) a. h a) (λ k. k) 0 l.initial.s l.a-index 0 l.s
