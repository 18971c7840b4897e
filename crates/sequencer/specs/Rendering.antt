-- Ticks and blocks, on every engine.
use Rattle.std.specs.Prelude.{ℕ, zero, suc, ◌/◌, min, cond, List, length, take, replicate, ◌==◌, slice_index_or, slice_set, Float}
use Rattle.event.specs.declared.Event.{Event}
use Rattle.event.specs.declared.MixOrder.{MixOrder}
use Rattle.event.specs.declared.MixOrder.TheVariants.{Forward, Backward}
use Rattle.event.specs.declared.Placings.{Placings}
use Rattle.event.specs.Blank.{blank}
use Rattle.event.specs.Placings.{no_placings}
use Rattle.event.specs.PlacingCounts.{add_all}
use Rattle.floats.specs.Arithmetic.{◌+ᵈ◌, ◌×ᵈ◌, ◌+ˢ◌, zeroᶠ, whole}
use Rattle.ledger.specs.TickSamples.{tick_sample, after_tick}
use Rattle.ledger.specs.BlockSamples.{Span, channel_after, after_block, overlay}
use Rattle.ledger.specs.Places.{event_placings}
use Rattle.mixing.specs.Blocks.{cleared_places}
use Rattle.sequencer.specs.declared.Sequencer.{Sequencer}
use Rattle.sequencer.specs.declared.Outcome.{Outcome}
use Rattle.sequencer.specs.Parts.{with_sounding}
use Rattle.sequencer.specs.Moves.{advanced}
use Rattle.refusals.specs.Refusals.{tick_refusal, process_refusal}
use Rattle.sequencer.specs.Answers.{accepts}
use Rattle.sequencer.specs.Outcomes.{renders, refuses}

-- ---- a pass over an array: each element in turn is replaced by `next` of it, and added to a sum. i have been passed and f are left; the next is at place i, or of the places left the last.

abbrev pub mix_place : MixOrder → (i left : ℕ) → ℕ
mix_place Forward i left = i
mix_place Backward i left = left

pub record Passed (A S : Type 0) : Type 0 where
  pub sum : S
  pub items : List A

module _ {A S : Type 0} (next : A → A) (plus : S → A → S) (d : A) where
  unfoldable pub passes : MixOrder → (f : ℕ) → (xs : List A) → (i : ℕ) → (sum : S) → Passed A S
  passes order zero xs i s = record { sum = s; items = xs }
  passes order (suc f) xs i s =
      let k = mix_place order i f in
      passes order f (slice_set xs k (next (slice_index_or xs k d))) (suc i) (plus s (slice_index_or xs k d))

-- ---- a tick

abbrev pub tick_end : Sequencer → Float
tick_end s = s.time +ᵈ s.sample_duration

abbrev pub add_tick : (pool : List Float) → (t sum : Float) → Event → Float
add_tick pool t sum e = sum +ˢ tick_sample pool t e

-- every active event in that order, at clock t
unfoldable pub tick_pass : MixOrder → (pool : List Float) → (t : Float) → Sequencer → Passed Event Float
unfolding passes
tick_pass order pool t a = passes after_tick (add_tick pool t) blank order (min a.active_len 256) a.active 0 zeroᶠ

unfoldable pub rendered_tick : MixOrder → (pool : List Float) → Sequencer → Sequencer
unfolding tick_pass advanced
rendered_tick order pool s =
    let a = advanced s (tick_end s) in
    with_sounding a (tick_pass order pool s.time a).items

unfoldable pub rendered_tick_out : MixOrder → (pool : List Float) → Sequencer → (out : List Float) → List Float
unfolding tick_pass advanced
rendered_tick_out order pool s out = replicate (length out) (tick_pass order pool s.time (advanced s (tick_end s))).sum

unfoldable pub ticks : MixOrder → (pool : List Float) → (len : ℕ) → Sequencer → Outcome
unfolding tick_refusal rendered_tick
ticks order pool len s =
    let no = tick_refusal len s.outputs s.time s.sample_duration in
    cond (no == 0) (accepts (rendered_tick order pool s)) (refuses s no)

unfoldable pub tick_outs : MixOrder → (pool : List Float) → Sequencer → (out : List Float) → List Float
unfolding tick_refusal rendered_tick_out
tick_outs order pool s out = cond (tick_refusal (length out) s.outputs s.time s.sample_duration == 0) (rendered_tick_out order pool s out) out

-- ---- a block of n samples

abbrev pub block_end : Sequencer → (n : ℕ) → Float
block_end s n = s.time +ᵈ s.sample_duration ×ᵈ whole n

-- of a size above 64, 64 count
abbrev pub span_of : Sequencer → (n : ℕ) → Span
span_of s n = record { size = min 64 n; clock = s.time; upto = block_end s n; rate = s.sample_rate; duration = s.sample_duration }

abbrev pub add_block : (pool : List Float) → Span → (channel : List Float) → Event → List Float
add_block pool b channel e = channel_after pool b e channel

unfoldable pub block_pass : MixOrder → (pool : List Float) → Span → (n : ℕ) → Sequencer → Passed Event (List Float)
unfolding passes
block_pass order pool b n a = passes (after_block b) (add_block pool b) blank order (min a.active_len 256) a.active 0 (replicate (cleared_places n) zeroᶠ)

-- how the places of every active event came
abbrev pub add_places : Span → Placings → Event → Placings
add_places b c e = add_all c (event_placings b e)

unfoldable pub places_pass : MixOrder → Span → Sequencer → Passed Event Placings
unfolding passes
places_pass order b a = passes (after_block b) (add_places b) blank order (min a.active_len 256) a.active 0 no_placings

unfoldable pub rendered_places : MixOrder → (n : ℕ) → Sequencer → Placings
unfolding places_pass advanced
rendered_places order n s = (places_pass order (span_of s n) (advanced s (block_end s n))).sum

unfoldable pub rendered_block : MixOrder → (pool : List Float) → (n : ℕ) → Sequencer → Sequencer
unfolding block_pass advanced
rendered_block order pool n s =
    let a = advanced s (block_end s n) in
    with_sounding a (block_pass order pool (span_of s n) n a).items

unfoldable pub rendered_block_out : MixOrder → (pool : List Float) → (n : ℕ) → Sequencer → (out : List Float) → List Float
unfolding block_pass advanced
rendered_block_out order pool n s out = overlay (length out / 64) (take 64 (block_pass order pool (span_of s n) n (advanced s (block_end s n))).sum) out

unfoldable pub blocks : MixOrder → (pool : List Float) → (n len : ℕ) → Sequencer → Outcome
unfolding process_refusal rendered_block rendered_places
blocks order pool n len s =
    let no = process_refusal n len s.outputs s.time s.sample_duration in
    cond (no == 0) (renders (rendered_block order pool n s) (rendered_places order n s)) (refuses s no)

unfoldable pub block_outs : MixOrder → (pool : List Float) → (n : ℕ) → Sequencer → (out : List Float) → List Float
unfolding process_refusal rendered_block_out
block_outs order pool n s out = cond (process_refusal n (length out) s.outputs s.time s.sample_duration == 0) (rendered_block_out order pool n s out) out
