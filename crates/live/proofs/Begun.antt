-- The beginning of a tick or a block, and what the calls make of it.
use Rattle.std.proofs.Common.{◌≡◌, ℕ, zero, suc, ◌-◌, ◌/◌, ◌≤◌, min, false, eqb, List, ◌∷◌, length, get_or, take, replicate, sym, refl, ap, ◌∙◌, ap₂, arith, eq-eqb}
use lib.Ieee.{Float, nan}
use Rattle.event.specs.declared.Event.{Event}
use Rattle.event.specs.declared.MixOrder.{MixOrder}
use Rattle.event.specs.declared.Placings.{Placings}
use Rattle.event.specs.declared.ReplayMode.{ReplayMode}
use Rattle.event.specs.declared.ReplayMode.TheVariants.{All, None}
use Rattle.event.specs.Placings.{no_placings}
use Rattle.floats.specs.Arithmetic.{◌+ᵈ◌, ◌-ᵈ◌, ◌×ᵈ◌, zeroᶠ, halfᶠ}
use Rattle.ledger.specs.BlockSamples.{Span, after_block, overlay}
use Rattle.mixing.specs.declared.Span as MixSpans
use Rattle.mixing.specs.Blocks.{as_span, cleared_places}
use Rattle.refusals.specs.Refusals.{tick_refusal, process_refusal}
use Rattle.sequencer.specs.declared.Sequencer.{Sequencer}
use Rattle.sequencer.specs.declared.Answer.{Answer}
use Rattle.sequencer.specs.declared.Answer.TheVariants.{Done, Rendered, Refused}
use Rattle.sequencer.specs.Passing.{pass_of}
use Rattle.sequencer.specs.Rendering.{Passed, tick_end, tick_pass, rendered_tick, rendered_tick_out, ticks, tick_outs, block_end, add_block, add_places, block_pass, places_pass, rendered_block, rendered_block_out, rendered_places, blocks, block_outs}
use Rattle.sequencer.specs.Parts.{with_times, with_sounding}
use Rattle.sequencer.specs.Moves.{released_past, ready_to_active, active_to_past, advanced}
use Rattle.memory.specs.Memory.{Cells, engine_of}
use Rattle.memory.specs.Laws.{Sized}
use Rattle.memory.specs.Clock.{with_time, clock_is, clock_in, duration_in}
use Rattle.live.specs.CallContracts.{span_from, block_mixed}

-- ---- a is the engine once the finished are let go, b once those that are due have started, and f the arrays once those that have ended are finished

same_duration : (s : Sequencer) (m : ReplayMode) → (released_past s m).sample_duration ≡ s.sample_duration
unfolding released_past
same_duration s All = refl
same_duration s None = refl

pub advanced_in : (c : Cells) (a b : Sequencer) (e : Float) (f : Cells) → Sized f → a ≡ released_past (engine_of c) (engine_of c).mode
    → b ≡ ready_to_active (with_times a a.time (e -ᵈ a.sample_duration ×ᵈ halfᶠ))
    → engine_of f ≡ active_to_past b (get_or c.times 3072 nan +ᵈ halfᶠ ×ᵈ get_or c.times 3075 nan) → engine_of (with_time f 3072 e) ≡ advanced (engine_of c) e
unfolding advanced
advanced_in c a b e f z r p q =
    let s = engine_of c in
    let g = released_past s s.mode in
    let limit : get_or c.times 3072 nan +ᵈ halfᶠ ×ᵈ get_or c.times 3075 nan ≡ s.time +ᵈ halfᶠ ×ᵈ s.sample_duration = ap₂ (λ (x y : Float). x +ᵈ halfᶠ ×ᵈ y) (clock_in c) (duration_in c) in
    let started : b ≡ ready_to_active (with_times g g.time (e -ᵈ s.sample_duration ×ᵈ halfᶠ)) =
    p ∙ ap (λ (x : Sequencer). ready_to_active (with_times x x.time (e -ᵈ x.sample_duration ×ᵈ halfᶠ))) r
    ∙ ap (λ (y : Float). ready_to_active (with_times g g.time (e -ᵈ y ×ᵈ halfᶠ))) (same_duration s s.mode) in
    clock_is f e z ∙ ap (λ (x : Sequencer). with_times x e x.active_threshold) (q ∙ ap₂ active_to_past started limit)

-- ---- a tick

-- t, o and r are the engine, the output and the answer of a tick on s
abbrev pub Ticked : MixOrder → (s : Sequencer) → (pool out : List Float) → Sequencer → List Float → Answer → Type 0
Ticked order s pool out t o r = (t ≡ (ticks order pool (length out) s).sequencer) × ((o ≡ tick_outs order pool s out) × (r ≡ (ticks order pool (length out) s).answer))

module _ (order : MixOrder) (s : Sequencer) (pool out : List Float) (no : ℕ) (q : no ≡ tick_refusal (length out) s.outputs s.time s.sample_duration) where
  tick_refused : eqb no 0 ≡ false → Ticked order s pool out s out (Refused no)
  unfolding ticks tick_outs
  tick_refused h = rw (← q, h) (refl, (refl, refl))

  tick_done : no ≡ 0 → (a t : Sequencer) (x : Float) (o : List Float) → a ≡ advanced s (tick_end s) → t ≡ with_sounding a (tick_pass order pool s.time a).items
      → x ≡ (tick_pass order pool s.time a).sum → o ≡ replicate (length out) x → Ticked order s pool out t o Done
  unfolding ticks tick_outs rendered_tick rendered_tick_out
  tick_done h a t x o ga gt gx go =
      rw (eq-eqb _ 0 (sym q ∙ h)) (
        gt ∙ ap (λ (y : Sequencer). with_sounding y (tick_pass order pool s.time y).items) ga,
        (go ∙ ap (replicate (length out)) (gx ∙ ap (λ (y : Sequencer). (tick_pass order pool s.time y).sum) ga), refl),
      )

-- the same of cells
module _ (order : MixOrder) (c : Cells) (pool out : List Float) (no : ℕ) (q : no ≡ tick_refusal (length out) (get_or c.numbers 1284 0) (get_or c.times 3072 nan) (get_or c.times 3075 nan)) where
  told : no ≡ tick_refusal (length out) (engine_of c).outputs (engine_of c).time (engine_of c).sample_duration
  unfolding engine_of
  told = q

  pub tick_refused_in : eqb no 0 ≡ false → Ticked order (engine_of c) pool out (engine_of c) out (Refused no)
  tick_refused_in = tick_refused order (engine_of c) pool out no told

  pub tick_done_in : no ≡ 0 → (a t : Sequencer) (x : Float) (o : List Float) → a ≡ advanced (engine_of c) (get_or c.times 3072 nan +ᵈ get_or c.times 3075 nan)
      → t ≡ with_sounding a (tick_pass order pool (get_or c.times 3072 nan) a).items → x ≡ (tick_pass order pool (get_or c.times 3072 nan) a).sum → o ≡ replicate (length out) x
      → Ticked order (engine_of c) pool out t o Done
  unfolding engine_of
  tick_done_in h a t x o ga gt gx go = tick_done order (engine_of c) pool out no told h a t x o ga gt gx go

-- ---- a block

take-replicate : {A : Type 0} (k n : ℕ) (a : A) → k ≤ n → take k (replicate n a) ≡ replicate k a
take-replicate zero n a h = refl
take-replicate (suc k) zero a h = absurd (omega arith)
take-replicate (suc k) (suc n) a h = ap (λ (r : List _). a ∷ r) (take-replicate k n a (omega arith))

pub mix_is : (w n : ℕ) → w ≡ cleared_places n → take (w - 0) (replicate 64 zeroᶠ) ≡ replicate (cleared_places n) zeroᶠ
mix_is w n h =
    let z : w - 0 ≡ w = omega arith in
    ap (λ (k : ℕ). take k (replicate 64 zeroᶠ)) z ∙ take-replicate w 64 zeroᶠ (omega (arith, h)) ∙ ap (λ (k : ℕ). replicate k zeroᶠ) h

-- t, o and r are the engine, the output and the answer of a block of n samples on s
abbrev pub Blocked : MixOrder → (s : Sequencer) → (pool out : List Float) → (n : ℕ) → Sequencer → List Float → Answer → Type 0
Blocked order s pool out n t o r =
    (t ≡ (blocks order pool n (length out) s).sequencer) × ((o ≡ block_outs order pool n s out) × (r ≡ (blocks order pool n (length out) s).answer))

module _ (order : MixOrder) (s : Sequencer) (pool out : List Float) (n no : ℕ) (q : no ≡ process_refusal n (length out) s.outputs s.time s.sample_duration) where
  block_refused : eqb no 0 ≡ false → Blocked order s pool out n s out (Refused no)
  unfolding blocks block_outs
  block_refused h = rw (← q, h) (refl, (refl, refl))

  -- the passes of a block that ends at e, over the sounding events of a, on top of m
  abbrev up_to : Float → Span
  up_to e = record { size = min 64 n; clock = s.time; upto = e; rate = s.sample_rate; duration = s.sample_duration }

  abbrev Pass : Float → List Float → Sequencer → Passed Event (List Float)
  Pass e m a = pass_of (after_block (up_to e)) (add_block pool (up_to e)) m order a

  abbrev Places : Float → Sequencer → Passed Event Placings
  Places e a = pass_of (after_block (up_to e)) (add_places (up_to e)) no_placings order a

  module _ (e : Float) (m : List Float) (a : Sequencer) (qe : e ≡ block_end s n) (qm : m ≡ replicate (cleared_places n) zeroᶠ) (qa : a ≡ advanced s e) where
    begun : a ≡ advanced s (block_end s n)
    begun = qa ∙ ap (advanced s) qe

    passed : Pass e m a ≡ Pass (block_end s n) (replicate (cleared_places n) zeroᶠ) (advanced s (block_end s n))
    passed = ap (λ (x : Float). Pass x m a) qe ∙ ap (λ (x : List Float). Pass (block_end s n) x a) qm ∙ ap (Pass (block_end s n) (replicate (cleared_places n) zeroᶠ)) begun

    counted : Places e a ≡ Places (block_end s n) (advanced s (block_end s n))
    counted = ap₂ Places qe begun

    block_done : no ≡ 0 → (t : Sequencer) (o : List Float) (p : Placings) → t ≡ with_sounding a (Pass e m a).items → o ≡ overlay (length out / 64) (take 64 (Pass e m a).sum) out
        → p ≡ (Places e a).sum → Blocked order s pool out n t o (Rendered p)
    unfolding blocks block_outs rendered_block rendered_block_out rendered_places block_pass places_pass
    block_done h t o p gt go gp =
        rw (eq-eqb _ 0 (sym q ∙ h)) (
          gt ∙ ap₂ (λ (x : Sequencer) (y : Passed Event (List Float)). with_sounding x y.items) begun passed,
          (go ∙ ap (λ (y : Passed Event (List Float)). overlay (length out / 64) (take 64 y.sum) out) passed, ap Rendered (gp ∙ ap (λ (y : Passed Event Placings). y.sum) counted)),
        )

-- the same of cells
module _ (order : MixOrder) (c : Cells) (pool out : List Float) (n no : ℕ) (q : no ≡ process_refusal n (length out) (get_or c.numbers 1284 0) (get_or c.times 3072 nan) (get_or c.times 3075 nan)) where
  block-told : no ≡ process_refusal n (length out) (engine_of c).outputs (engine_of c).time (engine_of c).sample_duration
  unfolding engine_of
  block-told = q

  pub block-refused_in : eqb no 0 ≡ false → Blocked order (engine_of c) pool out n (engine_of c) out (Refused no)
  block-refused_in = block_refused order (engine_of c) pool out n no block-told

  pub block_done_in : no ≡ 0 → (b : MixSpans.Span) (m : List Float) (a t : Sequencer) (o : List Float) (p : Placings) → b ≡ span_from c.times n → m ≡ replicate (cleared_places n) zeroᶠ
      → a ≡ advanced (engine_of c) b.upto → t ≡ with_sounding a (block_mixed order pool (as_span b) m a).items
      → o ≡ overlay (length out / 64) (take 64 (block_mixed order pool (as_span b) m a).sum) out → p ≡ (places_pass order (as_span b) a).sum
      → Blocked order (engine_of c) pool out n t o (Rendered p)
  unfolding engine_of places_pass
  block_done_in h b m a t o p qb qm qa gt go gp =
      block_done order (engine_of c) pool out n no block-told (block_end (engine_of c) n) m a refl qm (qa ∙ ap (λ (x : MixSpans.Span). advanced (engine_of c) x.upto) qb) h t o p
      (gt ∙ ap (λ (x : MixSpans.Span). with_sounding a (block_mixed order pool (as_span x) m a).items) qb)
      (go ∙ ap (λ (x : MixSpans.Span). overlay (length out / 64) (take 64 (block_mixed order pool (as_span x) m a).sum) out) qb)
      (gp ∙ ap (λ (x : MixSpans.Span). (places_pass order (as_span x) a).sum) qb)
