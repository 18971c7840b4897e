-- Document 02, Paper 3: "a fade belongs to the clip". Which samples a fade multiplies is decided by their places in the block, whatever the place s at which the clip begins there. Assumes nothing.
-- A phase is that of the fade's first place in the block and, from there on, a sum in f32: at that place itself it is the phase of the place, so a block that is cut gives the second part's first place its own phase.
use Prim.Native.Nat.{ℕ, ◌-◌, max}
use Rattle.std.specs.Prelude.{Bool, ◌&&◌, cond, ltb, leb}
use Rattle.std.specs.Float.Ieee.{Float}
use Rattle.floats.specs.Arithmetic.{◌+ᵈ◌, ◌-ᵈ◌, ◌+ˢ◌, ◌-ˢ◌, ◌×ˢ◌, ◌<ᶠ◌, zeroᶠ, oneᶠ}
use Rattle.event.specs.declared.Event.{Event}
use Rattle.event.specs.declared.Fade.{Fade}
use Rattle.event.specs.Fades.{curve}
use Rattle.event.specs.Sources.{steps}
use Rattle.ledger.specs.BlockSamples.{Span, fade_in_place, fade_out_place, phase_at, phase_step}

-- ---- what the fades make of a sample x at block place p, of a clip that begins at block place s and ends before z

-- the phase of block place i, and p - i steps on
abbrev pub phase_on : Span → (i p : ℕ) → (bottom top fade : Float) → Float
phase_on b i p bottom top fade = steps (λ x. x +ˢ phase_step b fade) (phase_at b i bottom top) (p - i)

-- the fade-in multiplies at the places below its end place
abbrev pub faded_in_at : Span → (s z p : ℕ) → Event → Float → Float
faded_in_at b s z p e x =
    let top = e.start_time +ᵈ e.fade_in in
    cond (zeroᶠ <ᶠ e.fade_in && b.clock <ᶠ top) (cond (ltb p (fade_in_place b z e)) (x ×ˢ curve e.fade_ease (phase_on b s p e.start_time top e.fade_in)) x) x

-- the fade-out multiplies from its place on
abbrev pub faded_out_at : Span → (s p : ℕ) → Event → Float → Float
faded_out_at b s p e x =
    let bottom = e.end_time -ᵈ e.fade_out in
    let i = max (fade_out_place b e) s in
    cond (zeroᶠ <ᶠ e.fade_out && bottom <ᶠ b.upto)
    (cond (leb (fade_out_place b e) p) (x ×ˢ curve e.fade_ease (oneᶠ -ˢ phase_on b i p bottom e.end_time e.fade_out)) x)
    x

module _ (c : Fade) (rising : Bool) (step : Float) where
  unfoldable pub factor : (phase : Float) → (k : ℕ) → Float
  factor phase k = let x = steps (λ y. y +ˢ step) phase k in curve c (cond rising x (oneᶠ -ˢ x))
