-- Document 01, "Block samples": what the sounding events add to a block, and where their sources stand after it. A channel is a list of samples; one faded run serves every channel.
use Rattle.std.specs.Prelude.{ℕ, zero, suc, ◌-◌, min, max, Bool, true, false, ◌&&◌, cond, List, [], ◌∷◌, ◌++◌, map, ltb, length, take, drop, Float}
use Rattle.std.proofs.Math.Option.{Option, none, some}
use Rattle.floats.specs.Arithmetic.{◌+ᵈ◌, ◌-ᵈ◌, ◌×ᵈ◌, ◌÷ᵈ◌, ◌+ˢ◌, ◌-ˢ◌, ◌×ˢ◌, ◌<ᶠ◌, ◌≤ᶠ◌, zeroᶠ, oneᶠ, whole}
use Rattle.floats.specs.Floats.{narrowed, index}
use Rattle.math.specs.Curves.{delerped}
use Rattle.event.specs.declared.Event.{Event}
use Rattle.event.specs.declared.Fade.{Fade}
use Rattle.event.specs.Events.{with_unit}
use Rattle.event.specs.Fades.{curve}
use Rattle.event.specs.Sources.{next_samples, advanced_by}

-- A block of n samples from clock t up to e, at rate r and sample duration d
pub record Span : Type 0 where
  pub size : ℕ  -- n
  pub clock : Float  -- t
  pub upto : Float  -- e
  pub rate : Float  -- r
  pub duration : Float  -- d

-- ---- where an event sounds in the block

-- s = 0 if start ≤ t, else index((start - t) × r), at most n
unfoldable pub first_place : Span → Event → ℕ
first_place b e = cond (e.start_time ≤ᶠ b.clock) 0 (min b.size (index ((e.start_time -ᵈ b.clock) ×ᵈ b.rate)))

-- z = n if end ≥ e, else index((end - t) × r), at most n
unfoldable pub end_place : Span → Event → ℕ
end_place b e = cond (b.upto ≤ᶠ e.end_time) b.size (min b.size (index ((e.end_time -ᵈ b.clock) ×ᵈ b.rate)))

-- ---- The fades, as in the Rust's `fade_in` and `fade_out` with document 02's Paper 3: "a fade belongs to the clip". Their places count from the block's edge, the scratch's from s.

-- A run times the curve, at `phase` and then one `step` further for each sample. A rising fade takes the curve at the phase, a falling one at 1 - phase.
unfoldable pub faded_all : Fade → (rising : Bool) → (phase step : Float) → List Float → List Float
faded_all c rising phase step [] = []
faded_all c rising phase step (x ∷ l) = x ×ˢ curve c (cond rising phase (oneᶠ -ˢ phase)) ∷ faded_all c rising (phase +ˢ step) step l

-- A run with its places from `from` up to, not including, `to` so faded. Where `to` is not above `from` it stays as it is.
unfoldable pub faded : Fade → (rising : Bool) → (from to : ℕ) → (phase step : Float) → List Float → List Float
faded c rising from to phase step l =
    take from l ++ (faded_all c rising phase step (take (to - from) (drop from l)) ++ drop (to - from) (drop from l))

-- where a fade-in ends: z if that is at the block's end or later, else index((start + fade-in - t) / d), at most 64
unfoldable pub fade_in_place : Span → (z : ℕ) → Event → ℕ
fade_in_place b z e =
    let top = e.start_time +ᵈ e.fade_in in
    cond (b.upto ≤ᶠ top) z (min 64 (index ((top -ᵈ b.clock) ÷ᵈ b.duration)))

-- where a fade-out starts: 0 if that is at t or before, else index((end - fade-out - t) / d), at most 64
unfoldable pub fade_out_place : Span → Event → ℕ
fade_out_place b e =
    let bottom = e.end_time -ᵈ e.fade_out in
    cond (bottom ≤ᶠ b.clock) 0 (min 64 (index ((bottom -ᵈ b.clock) ÷ᵈ b.duration)))

-- the phase of block place i in a fade from `bottom` to `top`: narrow((t + i × d - bottom) / (top - bottom))
unfoldable pub phase_at : Span → (i : ℕ) → (bottom top : Float) → Float
phase_at b i bottom top = narrowed (delerped bottom top (b.clock +ᵈ whole i ×ᵈ b.duration))

-- how far the phase goes for each sample of a fade: narrow(d / fade)
unfoldable pub phase_step : Span → (fade : Float) → Float
phase_step b fade = narrowed (b.duration ÷ᵈ fade)

-- `fade_in`. Paper 3: "The fade-in covers scratch places below its end place minus s, and none if that is negative", from the phase of block place s on.
unfoldable pub run_faded_in : Span → (s z : ℕ) → Event → List Float → List Float
run_faded_in b s z e l =
    let top = e.start_time +ᵈ e.fade_in in
    cond (zeroᶠ <ᶠ e.fade_in && b.clock <ᶠ top)
    (faded e.fade_ease true 0 (fade_in_place b z e - s) (phase_at b s e.start_time top) (phase_step b e.fade_in) l)
    l

-- `fade_out`. Paper 3: "The fade-out begins at block place max(its place, s), with the phase of that place, and touches scratch from there minus s up to z minus s." One that begins after z fades nothing.
unfoldable pub run_faded_out : Span → (s z : ℕ) → Event → List Float → List Float
run_faded_out b s z e l =
    let bottom = e.end_time -ᵈ e.fade_out in
    let i = max (fade_out_place b e) s in
    cond (zeroᶠ <ᶠ e.fade_out && bottom <ᶠ b.upto)
    (faded e.fade_ease false (i - s) (z - s) (phase_at b i bottom e.end_time) (phase_step b e.fade_out) l)
    l

-- Paper 5: "Every event carries an f32 gain, multiplied onto the source's sample before the fades, by one rounding."
abbrev pub gained : (gain : Float) → List Float → List Float
gained g l = map (λ x. x ×ˢ g) l

-- the source's z - s samples at the event's gain, with both fades
abbrev pub faded_run : (pool : List Float) → Span → (s z : ℕ) → Event → List Float
faded_run pool b s z e = run_faded_out b s z e (run_faded_in b s z e (gained e.gain (next_samples pool e.unit (z - s))))

-- ---- One event. If z > s its run is added to the channel at s + k, the scratch holds the run, and the source has moved on by z - s.

-- a run added to a channel from place s on
unfoldable pub add_at : (s : ℕ) → (run channel : List Float) → List Float
add_at s run [] = []
add_at (suc s) run (x ∷ l) = x ∷ add_at s run l
add_at zero [] (x ∷ l) = x ∷ l
add_at zero (y ∷ run) (x ∷ l) = (x +ˢ y) ∷ add_at zero run l

unfoldable pub channel_after : (pool : List Float) → Span → Event → (channel : List Float) → List Float
channel_after pool b e channel =
    let s = first_place b e in
    let z = end_place b e in
    cond (ltb s z) (add_at s (faded_run pool b s z e) channel) channel

unfoldable pub scratch_after : (pool : List Float) → Span → Event → (scratch : List Float) → List Float
scratch_after pool b e scratch =
    let s = first_place b e in
    let z = end_place b e in
    cond (ltb s z) (faded_run pool b s z e) scratch

unfoldable pub after_block : Span → Event → Event
after_block b e =
    let s = first_place b e in
    let z = end_place b e in
    cond (ltb s z) (with_unit (advanced_by e.unit (z - s)) e) e

-- ---- all sounding events, in S order or with the mark from its end: one channel, the run given last, and the events after the block

pub record BlockSum : Type 0 where
  pub channel : List Float
  pub scratch : List Float
  pub events : List Event

unfoldable pub block_sum : (pool : List Float) → Span → List Event → (channel scratch : List Float) → BlockSum
block_sum pool b [] channel scratch = record { channel = channel; scratch = scratch; events = [] }
block_sum pool b (e ∷ l) channel scratch =
    let r = block_sum pool b l (channel_after pool b e channel) (scratch_after pool b e scratch) in
    record { channel = r.channel; scratch = r.scratch; events = after_block b e ∷ r.events }

-- ---- a lent list of c channels, 64 samples each: the first places of every channel written over, the rest remains
unfoldable pub overlay : (c : ℕ) → (run lent : List Float) → List Float
overlay zero run l = l
overlay (suc c) run l = run ++ (drop (length run) (take 64 l) ++ overlay c run (drop 64 l))

-- Paper 7: "A block now gets 64 scratch samples in place of 64 for every channel": the run given last over its first places, the rest remains
abbrev pub overlay_scratch : (run : List Float) → Option (List Float) → Option (List Float)
overlay_scratch run none = none
overlay_scratch run (some l) = some (run ++ drop (length run) l)
