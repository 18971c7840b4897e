-- Document 02, Paper 9, of the ledger's ticks and blocks: "if no fade factor is applied at a sample, all gains are 1.0, and every contribution is such a multiple". Which contributions a sample has, and when they qualify.
use Rattle.std.specs.Prelude.{ℕ, ◌-◌, ◌≡◌, Bool, not, ◌&&◌, cond, T, leb, ltb, Float, get_or}
use mathlib.Core.List.{List, [], ◌∷◌, map, filter_map}
use Rattle.std.proofs.Math.Option.{Option, none, some}
use Rattle.floats.specs.Arithmetic.{◌+ᵈ◌, ◌-ᵈ◌, ◌<ᶠ◌, zeroᶠ, oneᶠ}
use Rattle.floats.specs.Floats.{narrowed}
use Rattle.math.specs.Curves.{delerped}
use Rattle.event.specs.declared.Event.{Event}
use Rattle.event.specs.Sources.{sample_of, next_samples}
use Rattle.ledger.specs.TickSamples.{tick_sample}
use Rattle.ledger.specs.BlockSamples.{Span, first_place, end_place, fade_in_place, fade_out_place, faded_run}
use Rattle.sums.specs.Multiples.{multiple}

-- of every event of a list
abbrev pub All : (Event → Type 0) → List Event → Type 0
All P [] = Unit {0}
All P (e ∷ s) = P e × All P s

-- ---- A tick at clock t has one sample. Every sounding event contributes to it: its value, as it is added.

abbrev pub tick_contributions : (pool : List Float) → (t : Float) → List Event → List Float
tick_contributions pool t s = map (tick_sample pool t) s

-- no fade factor is applied: neither of the two conditions of document 01, "Tick samples". A factor of 1.0 is one.
abbrev pub unfaded_tick : (t : Float) → Event → Bool
unfaded_tick t e =
    let rise = narrowed (delerped e.start_time (e.start_time +ᵈ e.fade_in) t) in
    let fall = narrowed (delerped (e.end_time -ᵈ e.fade_out) e.end_time t) in
    not (zeroᶠ <ᶠ e.fade_in && rise <ᶠ oneᶠ) && not (zeroᶠ <ᶠ e.fade_out && zeroᶠ <ᶠ fall)

-- the event's contribution qualifies: no fade factor, gain 1.0, and the source's sample is such a multiple
abbrev pub TickQualifies : (pool : List Float) → (t : Float) → Event → Type 0
TickQualifies pool t e = T (unfaded_tick t e) × (e.gain ≡ oneᶠ) × T (multiple (sample_of pool e.unit))

-- ---- A block's sample at place k has the contributions of the events with s ≤ k < z, and no others.

abbrev pub sounds_at : Span → (k : ℕ) → Event → Bool
sounds_at b k e = leb (first_place b e) k && ltb k (end_place b e)

-- what is added there: the sample of the faded run at scratch place k - s
abbrev pub contribution : (pool : List Float) → Span → (k : ℕ) → Event → Option Float
contribution pool b k e =
    let s = first_place b e in
    cond (sounds_at b k e) (some (get_or (faded_run pool b s (end_place b e) e) (k - s) zeroᶠ)) none

abbrev pub block_contributions : (pool : List Float) → Span → (k : ℕ) → List Event → List Float
block_contributions pool b k s = filter_map (contribution pool b k) s

-- No fade factor is applied at place k: the fade-in multiplies below its end place, the fade-out from its place on, and only where they touch the block at all.
abbrev pub unfaded_at : Span → (k : ℕ) → Event → Bool
unfaded_at b k e =
    not (zeroᶠ <ᶠ e.fade_in && b.clock <ᶠ e.start_time +ᵈ e.fade_in && ltb k (fade_in_place b (end_place b e) e))
    && not (zeroᶠ <ᶠ e.fade_out && e.end_time -ᵈ e.fade_out <ᶠ b.upto && leb (fade_out_place b e) k)

-- if the event contributes at place k, its contribution qualifies
abbrev pub BlockQualifies : (pool : List Float) → Span → (k : ℕ) → Event → Type 0
BlockQualifies pool b k e =
    let s = first_place b e in
    T (sounds_at b k e) → T (unfaded_at b k e) × (e.gain ≡ oneᶠ) × T (multiple (get_or (next_samples pool e.unit (end_place b e - s)) (k - s) zeroᶠ))
