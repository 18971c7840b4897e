-- An event has two to four places in a block.
use Rattle.std.specs.Prelude.{ℕ, ◌+◌, ◌*◌, ◌≤◌, Bool, true, false, ◌&&◌, cond, List, [], ◌∷◌, ◌++◌, ltb, length}
use Rattle.std.proofs.Common.{arith, length-append}
use Rattle.floats.specs.Arithmetic.{◌+ᵈ◌, ◌-ᵈ◌, ◌<ᶠ◌, zeroᶠ}
use Rattle.event.specs.declared.Event.{Event}
use Rattle.event.specs.declared.Placing.{Placing}
use Rattle.ledger.specs.BlockSamples.{Span, first_place, end_place}
use Rattle.ledger.specs.Places.{first_placing, end_placing, fade_in_placing, fade_out_placing, fade_in_placings, fade_out_placings, event_placings, placings}

fades_within : (b : Span) (s : ℕ) (e : Event) → length (fade_in_placings b e ++ fade_out_placings b s e) ≤ 2
unfolding fade_in_placings fade_out_placings
fades_within b s e = go (zeroᶠ <ᶠ e.fade_in && b.clock <ᶠ (e.start_time +ᵈ e.fade_in)) (zeroᶠ <ᶠ e.fade_out && (e.end_time -ᵈ e.fade_out) <ᶠ b.upto)
  where
    go : (t u : Bool) → length (cond t (fade_in_placing b e ∷ []) [] ++ cond u (fade_out_placing b s e ∷ []) []) ≤ 2
    go true true = omega arith
    go true false = omega arith
    go false true = omega arith
    go false false = omega arith

event-within : (b : Span) (e : Event) → length (event_placings b e) ≤ 4
unfolding event_placings
event-within b e = go (ltb (first_place b e) (end_place b e))
  where
    fades : List Placing
    fades = fade_in_placings b e ++ fade_out_placings b (first_place b e) e

    go : (t : Bool) → length (first_placing b e ∷ end_placing b e ∷ cond t fades []) ≤ 4
    go true = omega (arith, fades_within b (first_place b e) e)
    go false = omega arith

pub placings-within : (b : Span) (l : List Event) → length (placings b l) ≤ 4 * length l
unfolding placings
placings-within b [] = omega arith
placings-within b (e ∷ l) = omega (arith, length-append (event_placings b e) (placings b l), event-within b e, placings-within b l)
