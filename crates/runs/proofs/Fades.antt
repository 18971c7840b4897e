-- A fade in two passes is the ledger's in one, and so are one along a ramp and a walk. Assumes nothing.
use mathlib.Core.Path.{◌≡◌, refl, ap}
use mathlib.Core.Bool.{Bool}
use mathlib.Core.List.{List, [], ◌∷◌, map}
use Prim.Native.Nat.{ℕ, zero, suc}
use lib.Ieee.{Float}
use lib.ListN.{length}
use Rattle.event.specs.declared.Fade.{Fade}
use Rattle.event.specs.Fades.{curve}
use Rattle.event.specs.Sources.{made}
use Rattle.floats.specs.Arithmetic.{◌+ˢ◌, ◌×ˢ◌}
use Rattle.ledger.specs.BlockSamples.{faded_all}
use Rattle.runs.specs.Walk.{walk, zipped}
use Rattle.runs.specs.Samples.{chain, facing, phases_of, shaped}

pub map_made : {A S : Type 0} (f : A → A) (v : S → A) (next : S → S) (s : S) (k : ℕ) → map f (made v next s k) ≡ made (λ x. f (v x)) next s k
unfolding made
map_made f v next s zero = refl
map_made f v next s (suc k) = ap (λ (r : List _). f (v s) ∷ r) (map_made f v next (next s) k)

module _ (c : Fade) (rising : Bool) where
  pub two-passes : (phase step : Float) (l : List Float) → shaped c (phases_of rising phase step (length l)) l ≡ faded_all c rising phase step l
  unfolding faded_all made zipped
  two-passes phase step [] = refl
  two-passes phase step (x ∷ l) = ap (λ (r : List Float). (x ×ˢ curve c (facing rising phase)) ∷ r) (two-passes (phase +ˢ step) step l)

  pub on_ramp : (phase step : Float) (l : List Float) → zipped (λ a y. a ×ˢ curve c (facing rising y)) (chain step phase (length l)) l ≡ faded_all c rising phase step l
  unfolding faded_all made zipped
  on_ramp phase step [] = refl
  on_ramp phase step (x ∷ l) = ap (λ (r : List Float). (x ×ˢ curve c (facing rising phase)) ∷ r) (on_ramp (phase +ˢ step) step l)

  pub faded_all_walk : (phase step : Float) (l : List Float) → walk (λ y a. a ×ˢ curve c (facing rising y)) (λ y. y +ˢ step) phase l ≡ faded_all c rising phase step l
  unfolding faded_all walk
  faded_all_walk phase step [] = refl
  faded_all_walk phase step (x ∷ l) = ap (λ (r : List Float). (x ×ˢ curve c (facing rising phase)) ∷ r) (faded_all_walk (phase +ˢ step) step l)
