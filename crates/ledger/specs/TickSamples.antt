-- Document 01, "Tick samples": what the sounding events add to a tick at clock t, and where their sources stand after it.
use Rattle.std.specs.Prelude.{◌&&◌, cond, List, [], ◌∷◌, Float}
use Rattle.floats.specs.Arithmetic.{◌+ᵈ◌, ◌-ᵈ◌, ◌+ˢ◌, ◌-ˢ◌, ◌×ˢ◌, ◌<ᶠ◌, zeroᶠ, oneᶠ}
use Rattle.floats.specs.Floats.{narrowed}
use Rattle.math.specs.Curves.{delerped}
use Rattle.event.specs.declared.Event.{Event}
use Rattle.event.specs.Events.{with_unit}
use Rattle.event.specs.Fades.{curve}
use Rattle.event.specs.Sources.{sample_of, advanced}

-- The value is multiplied by the curve at narrow((t - start) / ((start + fade-in) - start)) if fade-in > 0 and that phase < 1 ..
unfoldable pub faded_in : (t : Float) → Event → Float → Float
faded_in t e x =
    let phase = narrowed (delerped e.start_time (e.start_time +ᵈ e.fade_in) t) in
    cond (zeroᶠ <ᶠ e.fade_in && phase <ᶠ oneᶠ) (x ×ˢ curve e.fade_ease phase) x

-- .. then by the curve at 1 - phase for fade-out > 0 and phase > 0, phase = narrow((t - (end - fade-out)) / (end - (end - fade-out)))
unfoldable pub faded_out : (t : Float) → Event → Float → Float
faded_out t e x =
    let phase = narrowed (delerped (e.end_time -ᵈ e.fade_out) e.end_time t) in
    cond (zeroᶠ <ᶠ e.fade_out && zeroᶠ <ᶠ phase) (x ×ˢ curve e.fade_ease (oneᶠ -ˢ phase)) x

-- Paper 5: "Every event carries an f32 gain, multiplied onto the source's sample before the fades, by one rounding."
abbrev pub tick_sample : (pool : List Float) → (t : Float) → Event → Float
tick_sample pool t e = faded_out t e (faded_in t e (sample_of pool e.unit ×ˢ e.gain))

abbrev pub after_tick : Event → Event
after_tick e = with_unit (advanced e.unit) e

-- in S order, or with the mark from its end (Steps.antt, `in_order`), each is added to what stands in the output; and the events after it
pub record TickSum : Type 0 where
  pub out : Float
  pub events : List Event

unfoldable pub tick_sum : (pool : List Float) → (t : Float) → List Event → (out : Float) → TickSum
tick_sum pool t [] out = record { out = out; events = [] }
tick_sum pool t (e ∷ s) out =
    let r = tick_sum pool t s (out +ˢ tick_sample pool t e) in
    record { out = r.out; events = after_tick e ∷ r.events }
