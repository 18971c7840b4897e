-- Document 02, Paper 5: "The Rust has no gain, so it is the measure for tapes whose gains are all 1.0." Ticks and blocks without gain, as document 01 has them, and that gains of 1.0 change nothing in them. Assumes nothing.
use Prim.Native.Nat.{ℕ, ◌-◌}
use Rattle.std.specs.Prelude.{◌≡◌, T, ltb, Float}
use Rattle.std.proofs.Math.Bool.{cond}
use mathlib.Core.List.{List, [], ◌∷◌}
use Rattle.std.specs.Float.{binary32}
use Rattle.std.specs.Float.Ieee.{fits}
use Rattle.floats.specs.Arithmetic.{◌+ˢ◌, oneᶠ}
use Rattle.event.specs.declared.Event.{Event}
use Rattle.event.specs.declared.Source.{Source}
use Rattle.event.specs.declared.Source.TheVariants.{Held, Ramp, Clip}
use Rattle.event.specs.declared.Unit as Declared
use Rattle.event.specs.Sources.{sample_of, next_samples}
use Rattle.ledger.specs.TickSamples as Tick
use Rattle.ledger.specs.TickSamples.{faded_in, faded_out, after_tick, TickSum}
use Rattle.ledger.specs.BlockSamples as Block
use Rattle.ledger.specs.BlockSamples.{Span, first_place, end_place, gained, run_faded_in, run_faded_out, add_at, after_block, BlockSum}

-- ---- the samples without gain

abbrev pub tick_sample : (pool : List Float) → (t : Float) → Event → Float
tick_sample pool t e = faded_out t e (faded_in t e (sample_of pool e.unit))

unfoldable pub tick_sum : (pool : List Float) → (t : Float) → List Event → (out : Float) → TickSum
tick_sum pool t [] out = record { out = out; events = [] }
tick_sum pool t (e ∷ s) out =
    let r = tick_sum pool t s (out +ˢ tick_sample pool t e) in
    record { out = r.out; events = after_tick e ∷ r.events }

abbrev pub faded_run : (pool : List Float) → Span → (s z : ℕ) → Event → List Float
faded_run pool b s z e = run_faded_out b s z e (run_faded_in b s z e (next_samples pool e.unit (z - s)))

unfoldable pub channel_after : (pool : List Float) → Span → Event → (channel : List Float) → List Float
channel_after pool b e channel =
    let s = first_place b e in
    let z = end_place b e in
    cond (ltb s z) (add_at s (faded_run pool b s z e) channel) channel

unfoldable pub scratch_after : (pool : List Float) → Span → Event → (scratch : List Float) → List Float
scratch_after pool b e scratch =
    let s = first_place b e in
    let z = end_place b e in
    cond (ltb s z) (faded_run pool b s z e) scratch

unfoldable pub block_sum : (pool : List Float) → Span → List Event → (channel scratch : List Float) → BlockSum
block_sum pool b [] channel scratch = record { channel = channel; scratch = scratch; events = [] }
block_sum pool b (e ∷ l) channel scratch =
    let r = block_sum pool b l (channel_after pool b e channel) (scratch_after pool b e scratch) in
    record { channel = r.channel; scratch = r.scratch; events = after_block b e ∷ r.events }

-- ---- Events at gain 1.0. Their sources, and the pool, hold f32s, as on every machine: a Float of the logic may have more digits, which a multiplication by 1.0 would round.

abbrev pub AllSingle : List Float → Type 0
AllSingle [] = Unit {0}
AllSingle (x ∷ l) = T (fits binary32 x) × AllSingle l

abbrev pub Single : Source → (value : Float) → Type 0
Single (Held level) value = T (fits binary32 level)
Single (Ramp first step) value = T (fits binary32 first) × T (fits binary32 value)
Single (Clip offset length) value = Unit {0}

abbrev pub AtOne : Event → Type 0
AtOne e = (e.gain ≡ oneᶠ) × Single e.unit.source e.unit.value

abbrev pub AllAtOne : List Event → Type 0
AllAtOne [] = Unit {0}
AllAtOne (e ∷ s) = AtOne e × AllAtOne s

-- ---- ticks and blocks of such events are those without gain: samples, scratch, and the events after them
pub record Same (pool : List Float) (s : List Event) : Type 0 where
  pub ticks : (t out : Float) → Tick.tick_sum pool t s out ≡ tick_sum pool t s out
  pub blocks : (b : Span) (channel scratch : List Float) → Block.block_sum pool b s channel scratch ≡ block_sum pool b s channel scratch

-- a source goes on with f32s
abbrev pub SingleUnit : Declared.Unit → Type 0
SingleUnit u = Single u.source u.value
