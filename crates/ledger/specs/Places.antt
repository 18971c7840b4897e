-- Document 02, Paper 12: "a block reports of its s, z and fade places how many were kept as rounded, how many forced (only by the index step, by the cuts to the block's size and to 64, or as a rounded fade-out place raised to s), and how many set at an edge without the index step, as s at start ≤ t. Each counts once, a fade's only where `fade_in` or `fade_out` computes it."
use Rattle.std.specs.Prelude.{ℕ, ◌&&◌, cond, List, [], ◌∷◌, ◌++◌, ltb, leb, Float}
use Rattle.floats.specs.Arithmetic.{◌+ᵈ◌, ◌-ᵈ◌, ◌×ᵈ◌, ◌÷ᵈ◌, ◌<ᶠ◌, ◌≤ᶠ◌, zeroᶠ}
use Rattle.floats.specs.Floats.{index, clamp_of, is_free}
use Rattle.event.specs.declared.Event.{Event}
use Rattle.event.specs.declared.Placing.{Placing}
use Rattle.event.specs.declared.Placing.TheVariants.{Kept, Forced, Edge}
use Rattle.ledger.specs.BlockSamples.{Span, first_place, end_place, fade_out_place}

-- a rounded place, cut to `most`: forced by the index step, or by the cut where that changes the number
unfoldable pub rounded : (most : ℕ) → Float → Placing
rounded most x = cond (is_free (clamp_of x) && leb (index x) most) Kept Forced

-- s: at an edge if start ≤ t
unfoldable pub first_placing : Span → Event → Placing
first_placing b e = cond (e.start_time ≤ᶠ b.clock) Edge (rounded b.size ((e.start_time -ᵈ b.clock) ×ᵈ b.rate))

-- z: at an edge if end ≥ e
unfoldable pub end_placing : Span → Event → Placing
end_placing b e = cond (b.upto ≤ᶠ e.end_time) Edge (rounded b.size ((e.end_time -ᵈ b.clock) ×ᵈ b.rate))

-- where a fade-in ends: at an edge if that is at the block's end or later
unfoldable pub fade_in_placing : Span → Event → Placing
fade_in_placing b e =
    let top = e.start_time +ᵈ e.fade_in in
    cond (b.upto ≤ᶠ top) Edge (rounded 64 ((top -ᵈ b.clock) ÷ᵈ b.duration))

-- where a fade-out starts: at an edge if that is at t or before; else forced where it is raised to s
unfoldable pub fade_out_placing : Span → (s : ℕ) → Event → Placing
fade_out_placing b s e =
    let bottom = e.end_time -ᵈ e.fade_out in
    cond (bottom ≤ᶠ b.clock) Edge (cond (ltb (fade_out_place b e) s) Forced (rounded 64 ((bottom -ᵈ b.clock) ÷ᵈ b.duration)))

-- "a fade's only where `fade_in` or `fade_out` computes it"
unfoldable pub fade_in_placings : Span → Event → List Placing
fade_in_placings b e = cond (zeroᶠ <ᶠ e.fade_in && b.clock <ᶠ (e.start_time +ᵈ e.fade_in)) (fade_in_placing b e ∷ []) []

unfoldable pub fade_out_placings : Span → (s : ℕ) → Event → List Placing
fade_out_placings b s e = cond (zeroᶠ <ᶠ e.fade_out && (e.end_time -ᵈ e.fade_out) <ᶠ b.upto) (fade_out_placing b s e ∷ []) []

-- one event: s and z, and where z > s its fades'
unfoldable pub event_placings : Span → Event → List Placing
event_placings b e =
    let s = first_place b e in
    first_placing b e ∷ end_placing b e ∷ cond (ltb s (end_place b e)) (fade_in_placings b e ++ fade_out_placings b s e) []

-- every sounding event, in S order
unfoldable pub placings : Span → List Event → List Placing
placings b [] = []
placings b (e ∷ l) = event_placings b e ++ placings b l
