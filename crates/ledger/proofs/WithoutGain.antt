-- Document 02, Paper 5: "The Rust has no gain, so it is the measure for tapes whose gains are all 1.0." Ticks and blocks without gain, as document 01 has them, and that gains of 1.0 change nothing in them. Assumes nothing.
use Prim.Native.Nat.{ℕ, zero, suc, ◌+◌, ◌-◌}
use Rattle.std.specs.Prelude.{◌≡◌, Bool, true, false, T, ltb, get_or, Float}
use Rattle.std.proofs.Math.Path.{refl, ap}
use Rattle.std.proofs.Common.{sym, ◌∙◌, subst}
use Rattle.std.proofs.Math.Bool.{cond}
use mathlib.Core.List.{List, [], ◌∷◌}
use Rattle.std.specs.Float.{binary32}
use Rattle.std.specs.Float.Ieee.{fits}
use Rattle.std.specs.Float.Ieee.Fits.{add-fits, cond-fits}
use Rattle.floats.specs.Arithmetic.{◌+ˢ◌, ◌×ˢ◌, zeroᶠ, oneᶠ}
use Rattle.floats.specs.Values.{times-one}
use Rattle.event.specs.declared.Event.{Event}
use Rattle.event.specs.declared.Source.{Source}
use Rattle.event.specs.declared.Source.TheVariants.{Held, Ramp, Clip}
use Rattle.event.specs.declared.Unit as Declared
use Rattle.event.specs.Sources.{made, sample_at, sample_of, advanced_at, advanced, next_samples}
use Rattle.ledger.specs.TickSamples as Tick
use Rattle.ledger.specs.TickSamples.{faded_in, faded_out, after_tick, TickSum}
use Rattle.ledger.specs.BlockSamples as Block
use Rattle.ledger.specs.BlockSamples.{Span, first_place, end_place, gained, run_faded_in, run_faded_out, add_at, after_block, BlockSum}
use Rattle.ledger.specs.WithoutGain.{tick_sample, tick_sum, faded_run, channel_after, scratch_after, block_sum, AllSingle, Single, AtOne, AllAtOne, Same, SingleUnit}

next-single : (source : Source) (u : Declared.Unit) → source ≡ u.source → SingleUnit u → SingleUnit (advanced_at source u)
next-single (Held level) u q h = h
next-single (Ramp first step) u q h =
    subst (λ (s : Source). Single s (u.value +ˢ step)) q ((subst (λ (s : Source). Single s u.value) (sym q) h).0, add-fits binary32 u.value step)
next-single (Clip offset length) u q h = go (ltb u.place length)
  where
    go : (b : Bool) → SingleUnit (cond b (record { source = u.source; value = u.value; place = u.place + 1 }) u)
    go true = h
    go false = h

pub advanced-single : (u : Declared.Unit) → SingleUnit u → SingleUnit (advanced u)
advanced-single u h = next-single u.source u refl h

zero_single : T (fits binary32 zeroᶠ)
unfolding fits
zero_single = tt

at-single : (l : List Float) (i : ℕ) → AllSingle l → T (fits binary32 (get_or l i zeroᶠ))
at-single [] i h = zero_single
at-single (x ∷ l) zero h = h.0
at-single (x ∷ l) (suc i) h = at-single l i h.1

module _ (pool : List Float) (f32s : AllSingle pool) where
  sample_single : (source : Source) (value : Float) (place : ℕ) → Single source value → T (fits binary32 (sample_at pool source value place))
  sample_single (Held level) value place h = h
  sample_single (Ramp first step) value place h = h.1
  sample_single (Clip offset length) value place h =
      cond-fits binary32 (ltb place length) (get_or pool (offset + place) zeroᶠ) zeroᶠ (at-single pool (offset + place) f32s) zero_single

  sample_at-one : (u : Declared.Unit) → SingleUnit u → sample_of pool u ×ˢ oneᶠ ≡ sample_of pool u
  sample_at-one u h = times-one binary32 (sample_of pool u) (sample_single u.source u.value u.place h)

  run-at-one : (u : Declared.Unit) (k : ℕ) → SingleUnit u → gained oneᶠ (next_samples pool u k) ≡ next_samples pool u k
  unfolding made
  run-at-one u zero h = refl
  run-at-one u (suc k) h = rw (sample_at-one u h, run-at-one (advanced u) k (advanced-single u h))

  tick_at-one : (t : Float) (e : Event) → AtOne e → Tick.tick_sample pool t e ≡ tick_sample pool t e
  tick_at-one t e h =
      ap (λ (g : Float). faded_out t e (faded_in t e (sample_of pool e.unit ×ˢ g))) h.0
      ∙ ap (λ (x : Float). faded_out t e (faded_in t e x)) (sample_at-one e.unit h.1)

  faded-at-one : (b : Span) (s z : ℕ) (e : Event) → AtOne e → Block.faded_run pool b s z e ≡ faded_run pool b s z e
  faded-at-one b s z e h =
      ap (λ (g : Float). run_faded_out b s z e (run_faded_in b s z e (gained g (next_samples pool e.unit (z - s))))) h.0
      ∙ ap (λ (l : List Float). run_faded_out b s z e (run_faded_in b s z e l)) (run-at-one e.unit (z - s) h.1)

  channel_at-one : (b : Span) (e : Event) (channel : List Float) → AtOne e → Block.channel_after pool b e channel ≡ channel_after pool b e channel
  unfolding Block.channel_after channel_after
  channel_at-one b e channel h =
      ap (λ (l : List Float). cond (ltb (first_place b e) (end_place b e)) (add_at (first_place b e) l channel) channel) (faded-at-one b (first_place b e) (end_place b e) e h)

  scratch-at-one : (b : Span) (e : Event) (scratch : List Float) → AtOne e → Block.scratch_after pool b e scratch ≡ scratch_after pool b e scratch
  unfolding Block.scratch_after scratch_after
  scratch-at-one b e scratch h =
      ap (λ (l : List Float). cond (ltb (first_place b e) (end_place b e)) l scratch) (faded-at-one b (first_place b e) (end_place b e) e h)

  ticks-at-one : (s : List Event) → AllAtOne s → (t out : Float) → Tick.tick_sum pool t s out ≡ tick_sum pool t s out
  unfolding Tick.tick_sum tick_sum
  ticks-at-one [] h t out = refl
  ticks-at-one (e ∷ s) h t out = rw (tick_at-one t e h.0, ticks-at-one s h.1 t (out +ˢ tick_sample pool t e))

  blocks-at-one : (s : List Event) → AllAtOne s → (b : Span) (channel scratch : List Float) → Block.block_sum pool b s channel scratch ≡ block_sum pool b s channel scratch
  unfolding Block.block_sum block_sum
  blocks-at-one [] h b channel scratch = refl
  blocks-at-one (e ∷ s) h b channel scratch =
      rw (channel_at-one b e channel h.0, scratch-at-one b e scratch h.0, blocks-at-one s h.1 b (channel_after pool b e channel) (scratch_after pool b e scratch))

  pub gains_of_one : (s : List Event) → AllAtOne s → Same pool s
  gains_of_one s h = record { ticks = ticks-at-one s h; blocks = blocks-at-one s h }
