-- A tick's fade that cannot act: of a fade-in whose end is after its start the phase is not below 1 from that end on, and of a fade-out whose beginning is before its end it is not above 0 up to that beginning.
-- For all floats (floats/proofs/Phases.antt). Assumes nothing.
use Rattle.std.specs.Prelude.{◌≡◌, Bool, true, false, cond, ◌&&◌, T, refl, Float}
use Rattle.std.proofs.Common.{ap, ◌∙◌}
use Rattle.std.specs.Float.Ieee.Fits.{and_l, and_r}
use Rattle.floats.specs.Arithmetic.{◌+ᵈ◌, ◌-ᵈ◌, ◌-ˢ◌, ◌×ˢ◌, ◌<ᶠ◌, ◌≤ᶠ◌, zeroᶠ, oneᶠ}
use Rattle.floats.specs.Floats.{narrowed}
use Rattle.floats.proofs.Phases.{not-below-one, not-above_zero}
use Rattle.math.specs.Curves.{delerped}
use Rattle.event.specs.declared.Event.{Event}
use Rattle.event.specs.declared.Fade.{Fade}
use Rattle.event.specs.Fades.{curve}
use Rattle.ledger.specs.TickSamples.{faded_in, faded_out}

-- a sample with a fade from `bottom` to `top`: a rising one acts where its phase is below 1, a falling one where it is above 0
abbrev pub tick_faded : (bottom top : Float) → Fade → (rising : Bool) → (t x : Float) → Float
tick_faded bottom top ease rising t x =
    let phase = narrowed (delerped bottom top t) in
    cond rising (cond (phase <ᶠ oneᶠ) (x ×ˢ curve ease phase) x) (cond (zeroᶠ <ᶠ phase) (x ×ˢ curve ease (oneᶠ -ˢ phase)) x)

neither : (b : Bool) (y x : Float) → cond (b && false) y x ≡ x
neither true y x = refl
neither false y x = refl

pub fade_in_over : (t : Float) (e : Event) (x : Float) → T (e.start_time <ᶠ (e.start_time +ᵈ e.fade_in) && (e.start_time +ᵈ e.fade_in) ≤ᶠ t) → faded_in t e x ≡ x
unfolding faded_in delerped
fade_in_over t e x h =
    let a = e.start_time in
    let b = a +ᵈ e.fade_in in
    let y = x ×ˢ curve e.fade_ease (narrowed (delerped a b t)) in
    ap (λ (c : Bool). cond (zeroᶠ <ᶠ e.fade_in && c) y x) (not-below-one a b t (and_l (a <ᶠ b) (b ≤ᶠ t) h) (and_r (a <ᶠ b) (b ≤ᶠ t) h)) ∙ neither (zeroᶠ <ᶠ e.fade_in) y x

pub fade_out_ahead : (t : Float) (e : Event) (x : Float) → T ((e.end_time -ᵈ e.fade_out) <ᶠ e.end_time && t ≤ᶠ (e.end_time -ᵈ e.fade_out)) → faded_out t e x ≡ x
unfolding faded_out delerped
fade_out_ahead t e x h =
    let b = e.end_time in
    let a = b -ᵈ e.fade_out in
    let y = x ×ˢ curve e.fade_ease (oneᶠ -ˢ narrowed (delerped a b t)) in
    ap (λ (c : Bool). cond (zeroᶠ <ᶠ e.fade_out && c) y x) (not-above_zero a b t (and_l (a <ᶠ b) (t ≤ᶠ a) h) (and_r (a <ᶠ b) (t ≤ᶠ a) h)) ∙ neither (zeroᶠ <ᶠ e.fade_out) y x
