-- `sequencer::Sequencer::render_block` meets its contract.
use Rattle.std.proofs.Common.{◌≡◌, ℕ, zero, suc, ◌-◌, ◌/◌, ◌≤◌, List, ◌∷◌, ◌++◌, length, take, drop, replicate, refl, ap, ◌∙◌, ap₂, arith, length-take-le, take_at, rules}
use native.Mathlib.Nat.{sub-zero}
use borrow.Rule.Slice.PartMut.{same_len_mid}
use lib.Ieee.{Float, of_bits}
use Rattle.event.specs.declared.Event.{Event}
use Rattle.event.specs.declared.MixOrder.{MixOrder}
use Rattle.event.specs.declared.Placings.{Placings}
use Rattle.floats.specs.Arithmetic.{zeroᶠ}
use Rattle.ledger.specs.BlockSamples.{Span, after_block, overlay}
use Rattle.mixing.specs.declared.Span as MixSpans
use Rattle.mixing.specs.Blocks.{as_span, cleared_places}
use Rattle.sequencer.specs.declared.Sequencer.{Sequencer}
use Rattle.sequencer.specs.declared.rendering.BlockMix.{BlockMix}
use Rattle.sequencer.specs.Parts.{with_sounding}
use Rattle.sequencer.specs.Outcomes.{renders}
use Rattle.sequencer.specs.Moves.{advanced}
use Rattle.sequencer.specs.Rendering.{Passed, block_end, span_of, add_block, block_pass, places_pass, rendered_block, rendered_places, rendered_block_out}
use Rattle.sequencer.specs.Passing.{pass_of}
use Rattle.sequencer.proofs.Sequencer.render_block.Goals as goal

-- ---- the channel: its first places are lent, and come back
take-replicate : {A : Type 0} (k n : ℕ) (a : A) → k ≤ n → take k (replicate n a) ≡ replicate k a
take-replicate zero n a h = refl
take-replicate (suc k) zero a h = absurd (omega arith)
take-replicate (suc k) (suc n) a h = ap (λ (r : List _). a ∷ r) (take-replicate k n a (omega arith))

lent : (w n : ℕ) → w ≡ cleared_places n → take (w - 0) (replicate 64 zeroᶠ) ≡ replicate (cleared_places n) zeroᶠ
lent w n h =
    let z : w - 0 ≡ w = omega arith in
    ap (λ (k : ℕ). take k (replicate 64 zeroᶠ)) z ∙ take-replicate w 64 zeroᶠ (omega (arith, h)) ∙ ap (λ (k : ℕ). replicate k zeroᶠ) h

back : (w : ℕ) (ys xs : List Float) → w ≤ length xs → length ys ≡ length (take (w - 0) xs) → take (w - 0) (ys ++ drop (w - 0) xs) ≡ ys
back w ys xs h e =
    let z : take (w - 0) (ys ++ drop (w - 0) xs) ≡ take w (ys ++ drop (w - 0) xs) = rw sub-zero in
    z ∙ take_at ys (drop (w - 0) xs) w (e ∙ rw sub-zero (length-take-le w xs h))

-- ---- the block
module _ (order : MixOrder) (pool : List Float) (s : Sequencer) (n : ℕ) where
  -- the pass of a block b over the sounding events of a, on top of m
  abbrev Pass : Span → List Float → Sequencer → Passed Event (List Float)
  Pass b m a = pass_of (after_block b) (add_block pool b) m order a

  done : (b : MixSpans.Span) (m ys out o : List Float) (a : Sequencer) (x : BlockMix)
      → b ≡ record { size = n; clock = s.time; upto = block_end s n; rate = s.sample_rate; duration = s.sample_duration } → m ≡ replicate (cleared_places n) zeroᶠ → a ≡ advanced s b.upto
      → x.sequencer ≡ with_sounding a (Pass (as_span b) m a).items → ys ≡ (Pass (as_span b) m a).sum → x.places ≡ (places_pass order (as_span b) a).sum
      → o ≡ overlay (length out / 64) (take 64 ys) out
      → (renders x.sequencer x.places ≡ renders (rendered_block order pool n s) (rendered_places order n s)) × (o ≡ rendered_block_out order pool n s out)
  unfolding rendered_block rendered_block_out rendered_places block_pass
  done b m ys out o a x hb hm ha hx hy hp ho =
      let empty = replicate (cleared_places n) zeroᶠ in
      let begun : a ≡ advanced s (block_end s n) = ha ∙ ap (λ (v : MixSpans.Span). advanced s v.upto) hb in
      let passed : Pass (as_span b) m a ≡ Pass (span_of s n) empty (advanced s (block_end s n)) =
      ap (λ (v : MixSpans.Span). Pass (as_span v) m a) hb ∙ ap (λ (v : List Float). Pass (span_of s n) v a) hm ∙ ap (Pass (span_of s n) empty) begun in
      let counted : places_pass order (as_span b) a ≡ places_pass order (span_of s n) (advanced s (block_end s n)) =
      ap (λ (v : MixSpans.Span). places_pass order (as_span v) a) hb ∙ ap (places_pass order (span_of s n)) begun in (
        ap₂ renders (hx ∙ ap₂ (λ (v : Sequencer) (w : Passed Event (List Float)). with_sounding v w.items) begun passed) (hp ∙ ap (λ (w : Passed Event Placings). w.sum) counted),
        ho ∙ ap (λ (v : List Float). overlay (length out / 64) (take 64 v) out) (hy ∙ ap (λ (w : Passed Event (List Float)). w.sum) passed),
      )

pub slice_bounds-overlay_channels-end : goal.slice_bounds-overlay_channels-end
unfolding of_bits
slice_bounds-overlay_channels-end c =
    let r = c.mix_block-mix in
    let w = c.cleared_places-w in
    let fits : w.result ≤ 64 = omega (arith, w.ensures) in
    let ys = r.new.mix in
    let long : length (ys ++ drop (w.result - 0) (replicate 64 zeroᶠ)) ≡ 64 = same_len_mid 0 (w.result - 0) (replicate 64 zeroᶠ) ys r.auto.mix in
    let h : w.result ≤ length (ys ++ drop (w.result - 0) (replicate 64 zeroᶠ)) = omega (arith, fits, long) in
    search rules

pub returns : goal.returns
unfolding of_bits
returns c =
    let a = c.args in
    let out = a.out.now in
    let r = c.mix_block-mix in
    let w = c.cleared_places-w in
    let fits : w.result ≤ 64 = omega (arith, w.ensures) in
    let ys = r.new.mix in
    done a.order a.pool.now a.self a.size _ _ ys out _ _ r.result c.span-span.ensures (lent _ _ w.ensures) c.advance-s.ensures r.ensures.engine r.ensures.samples r.ensures.places
    (c.overlay_channels.ensures ∙ ap (λ (run : List Float). overlay (length out / 64) (take 64 run) out) (back w.result ys (replicate 64 zeroᶠ) fits r.auto.mix))
