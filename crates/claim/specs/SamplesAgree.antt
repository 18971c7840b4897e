-- The engine's samples are the ledger's: the pass over the sounding array gives the ledger's sum of a tick or a block, leaves the events as the ledger's stand after it, and the output written from it is the ledger's. Assumes nothing.
use Rattle.std.specs.Prelude.{Bool, true, false, cond, ◌≡◌, ℕ, ◌-◌, ◌≤◌, min, ltb, Float, length, take, replicate}
use Rattle.std.proofs.Math.Path.{refl, ap}
use Rattle.std.proofs.Common.{sym, ap₂, ◌∙◌, subst, arith, take_all}
use mathlib.Core.List.{List, [], ◌∷◌, ◌++◌, map, foldl, reverse_aux, append-nil}
use Rattle.std.proofs.lemmas.List.{length-replicate}
use Rattle.event.specs.declared.Event.{Event}
use Rattle.event.specs.Events.{with_unit}
use Rattle.event.specs.Blank.{blank}
use Rattle.event.specs.declared.MixOrder.{MixOrder}
use Rattle.event.specs.declared.MixOrder.TheVariants.{Forward, Backward}
use Rattle.event.specs.declared.Placings.{Placings}
use Rattle.event.specs.Placings.{no_placings, tally}
use Rattle.event.specs.PlacingCounts.{add_all, add_all-append, add_all-swap, counts_agree}
use Rattle.event.specs.Sources.{advanced_by}
use Rattle.floats.specs.Arithmetic.{zeroᶠ}
use Rattle.lists.specs.Holds.{holds_to, holds-length}
use Rattle.lists.specs.Sounding.{id_of}
use Rattle.ledger.specs.TickSamples.{after_tick, tick_sum}
use Rattle.ledger.specs.BlockSamples.{Span, first_place, end_place, channel_after, scratch_after, after_block, block_sum}
use Rattle.ledger.proofs.FormerMethod as Former
use Rattle.ledger.specs.Places.{event_placings, placings}
use Rattle.ledger.proofs.PlacesWithin.{placings-within}
use Rattle.ledger.specs.Ledger.{Ledger}
use Rattle.ledger.specs.Steps as Plain
use Rattle.ledger.specs.Steps.{cleared, in_order}
use Rattle.mixing.specs.Blocks.{cleared_places, cleared-is, cleared-within}
use Rattle.sequencer.specs.declared.Sequencer.{Sequencer}
use Rattle.sequencer.specs.Parts.{with_sounding}
use Rattle.sequencer.specs.Rendering.{passes, add_tick, tick_pass, add_block, block_pass, add_places, places_pass}
use Rattle.claim.specs.Related.{Related}
use Rattle.claim.specs.Passes.{holds_pass}

-- ---- the ledger's sums, as a pass makes them

module _ (pool : List Float) (t : Float) where
  tick_out : (l : List Event) (out : Float) → foldl (add_tick pool t) out l ≡ (tick_sum pool t l out).out
  unfolding tick_sum
  tick_out [] out = refl
  tick_out (e ∷ l) out = tick_out l (add_tick pool t out e)

  tick_events : (l : List Event) (out : Float) → map after_tick l ≡ (tick_sum pool t l out).events
  unfolding tick_sum
  tick_events [] out = refl
  tick_events (e ∷ l) out = ap (λ (r : List Event). after_tick e ∷ r) (tick_events l (add_tick pool t out e))

module _ (pool : List Float) (b : Span) where
  pub block_channel : (l : List Event) (channel scratch : List Float) → foldl (add_block pool b) channel l ≡ (block_sum pool b l channel scratch).channel
  unfolding block_sum
  block_channel [] channel scratch = refl
  block_channel (e ∷ l) channel scratch = block_channel l (channel_after pool b e channel) (scratch_after pool b e scratch)

  pub length_channel : (l : List Event) (channel : List Float) → length (foldl (add_block pool b) channel l) ≡ length channel
  length_channel [] channel = refl
  length_channel (e ∷ l) channel = length_channel l (channel_after pool b e channel) ∙ Former.length_channel pool b e channel

-- ---- a pass over the sounding array keeps the relation

same-ids : (f : Event → Event) → ((e : Event) → id_of (f e) ≡ id_of e) → (l : List Event) → map id_of l ≡ map id_of (map f l)
same-ids f h [] = refl
same-ids f h (e ∷ l) = ap₂ (λ x y. x ∷ y) (sym (h e)) (same-ids f h l)

module _ {S : Type 0} (next : Event → Event) (plus : S → Event → S) (z : S) (keeps : (e : Event) → id_of (next e) ≡ id_of e) (order : MixOrder) where
  related_pass : (s : Sequencer) (l : Ledger) → Related s l → let p = passes next plus blank order (min s.active_len 256) s.active 0 z in
      Related (with_sounding s p.items) (Plain.with_sounding l (map next l.sounding)) × (p.sum ≡ foldl plus z (in_order order l.sounding))
  related_pass s l r =
      let whole : s.active_len ≡ min s.active_len 256 = omega (arith, r.lists.1.fits) in
      let p = holds_pass next plus blank order s.active s.active_len l.sounding z r.lists.1 in
      subst
      (λ (n : ℕ). let p = passes next plus blank order n s.active 0 z in Related (with_sounding s p.items) (Plain.with_sounding l (map next l.sounding)) × (p.sum ≡ foldl plus z (in_order order l.sounding)))
      whole
      (record { lists = (r.lists.0, p.0, holds_to (same-ids next keeps l.sounding) r.lists.2, r.lists.3, r.lists.4); plain = r.plain }, p.1)

-- ---- a tick at clock t, and a block

pub related_tick : (order : MixOrder) (pool : List Float) (t : Float) (s : Sequencer) (l : Ledger) → Related s l
    → Related (with_sounding s (tick_pass order pool t s).items) (Plain.with_sounding l (tick_sum pool t l.sounding zeroᶠ).events)
    × ((tick_pass order pool t s).sum ≡ (tick_sum pool t (in_order order l.sounding) zeroᶠ).out)
unfolding tick_pass
related_tick order pool t s l r =
    let k = related_pass after_tick (add_tick pool t) zeroᶠ (λ e. refl) order s l r in (
      subst (λ (x : List Event). Related (with_sounding s (tick_pass order pool t s).items) (Plain.with_sounding l x)) (tick_events pool t l.sounding zeroᶠ) k.0,
      k.1 ∙ tick_out pool t (in_order order l.sounding) zeroᶠ,
    )

after-id : (b : Span) (e : Event) → id_of (after_block b e) ≡ id_of e
unfolding after_block
after-id b e = go (ltb (first_place b e) (end_place b e))
  where
    go : (t : Bool) → id_of (cond t (with_unit (advanced_by e.unit (end_place b e - first_place b e)) e) e) ≡ id_of e
    go true = refl
    go false = refl

pub related_block : (order : MixOrder) (pool : List Float) (b : Span) (n : ℕ) (s : Sequencer) (l : Ledger) → n ≤ 64 → Related s l
    → Related (with_sounding s (block_pass order pool b n s).items) (Plain.with_sounding l (block_sum pool b l.sounding (cleared n) []).events)
    × (take 64 (block_pass order pool b n s).sum ≡ (block_sum pool b (in_order order l.sounding) (cleared n) []).channel)
unfolding block_pass
related_block order pool b n s l h r =
    let x : List Event = in_order order l.sounding in
    let z : List Float = replicate (cleared_places n) zeroᶠ in
    let k = related_pass (after_block b) (add_block pool b) z (after-id b) order s l r in
    let same : z ≡ cleared n = ap (λ (m : ℕ). replicate m zeroᶠ) (cleared-is n h) in
    let short : length (foldl (add_block pool b) z x) ≤ 64 = omega (arith, length_channel pool b x z, length-replicate (cleared_places n) zeroᶠ, cleared-within n) in (
      subst (λ (x : List Event). Related (with_sounding s (block_pass order pool b n s).items) (Plain.with_sounding l x)) (Former.events_once pool b l.sounding (cleared n) []) k.0,
      ap (take 64) k.1 ∙ take_all 64 (foldl (add_block pool b) z x) short ∙ ap (λ (y : List Float). foldl (add_block pool b) y x) same ∙ block_channel pool b x (cleared n) [],
    )

-- how the places of a block came

fold_places : (b : Span) (l : List Event) (c : Placings) → foldl (add_places b) c l ≡ add_all c (placings b l)
unfolding placings
fold_places b [] c = refl
fold_places b (e ∷ l) c = fold_places b l (add_places b c e) ∙ sym (add_all-append c (event_placings b e) (placings b l))

-- the counts do not depend on the order
module _ {S : Type 0} (plus : S → Event → S) (swaps : (s : S) (x y : Event) → plus (plus s x) y ≡ plus (plus s y) x) where
  fold_late : (l : List Event) (x : Event) (r : List Event) (s : S) → foldl plus s (l ++ (x ∷ r)) ≡ foldl plus s (x ∷ (l ++ r))
  fold_late [] x r s = refl
  fold_late (y ∷ l) x r s = fold_late l x r (plus s y) ∙ ap (λ (q : S). foldl plus q (l ++ r)) (swaps s y x)

  fold_back : (l r : List Event) (s : S) → foldl plus s (reverse_aux l r) ≡ foldl plus s (l ++ r)
  fold_back [] r s = refl
  fold_back (x ∷ l) r s = fold_back l (x ∷ r) s ∙ fold_late l x r s

  fold_order : (order : MixOrder) (l : List Event) (s : S) → foldl plus s (in_order order l) ≡ foldl plus s l
  fold_order Forward l s = refl
  fold_order Backward l s = fold_back l [] s ∙ ap (foldl plus s) (append-nil l)

pub related_places : (order : MixOrder) (b : Span) (s : Sequencer) (l : Ledger) → Related s l → (places_pass order b s).sum ≡ tally (placings b l.sounding)
unfolding places_pass
related_places order b s l r =
    let h = r.lists.1 in
    (related_pass (after_block b) (add_places b) no_placings (after-id b) order s l r).1
    ∙ fold_order (add_places b) (λ c x y. add_all-swap c (event_placings b x) (event_placings b y)) order l.sounding no_placings
    ∙ fold_places b l.sounding no_placings
    ∙ counts_agree (placings b l.sounding) (omega (arith, placings-within b l.sounding, h.fits, holds-length h))
