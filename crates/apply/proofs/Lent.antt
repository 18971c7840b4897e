-- A tick or block on the front of the lent output: as many places as it asks for, or all. One law for both. Assumes nothing.
use mathlib.Core.Path.{◌≡◌, ap, ◌∙◌}
use mathlib.Core.List.{List, ◌++◌}
use Prim.Native.Nat.{ℕ, min}
use native.Mathlib.Omega.{arith}
use lib.Ieee.{Float}
use lib.ListN.{length, take, drop}
use lib.Seq.{length-take-le}
use Rattle.sequencer.specs.declared.Outcome.{Outcome}
use Rattle.apply.specs.declared.Applied.{Applied}
use Rattle.apply.specs.Applying.{sounding_of}

-- the front of n places has n
pub front_length : (out : List Float) (w : ℕ) {n : ℕ} → n ≡ min w (length out) → length (take n out) ≡ n
front_length out w {n = n} h = length-take-le n out (omega arith)

-- k channels, which the definition calls m, ask for `asked k` places; n of them are lent
module _ (out : List Float) (asked : ℕ → ℕ) {k m n : ℕ} (channels : k ≡ m) (places : n ≡ min (asked k) (length out)) where
  abbrev lent : n ≡ min (asked m) (length out)
  lent = places ∙ ap (λ (x : ℕ). min (asked x) (length out)) channels

  -- the engine's answer f goes by the number of places
  pub lent-answer : (f : ℕ → Outcome) (each stride : ℕ) {r : Outcome} {a : Applied} → r ≡ f (length (take n out)) → a ≡ sounding_of r k each stride → a ≡ sounding_of (f (min (asked m) (length out))) m each stride
  lent-answer f each stride p q =
      let e = p ∙ ap f (front_length out (asked k) places ∙ lent) in
      q ∙ (λ i. sounding_of (e i) (channels i) each stride)

  -- what the engine leaves in the front, g of it, and the rest as it was
  pub lent_output : (g : List Float → List Float) {o : List Float} → o ≡ g (take n out) → o ++ drop n out ≡ g (take (min (asked m) (length out)) out) ++ drop (min (asked m) (length out)) out
  lent_output g p = ap (λ (x : List Float). x ++ drop n out) p ∙ ap (λ (x : ℕ). g (take x out) ++ drop x out) lent
