-- Document 02, Paper 9: a sample of a tick or block is the sum of its contributions, in the order of the list. Where they qualify it is their exact sum, and any order of the list gives the same bits. Assumes nothing.
use Prim.Native.Nat.{ℕ, zero, suc, ◌+◌, ◌-◌, ◌≤◌, ◌<◌}
use Rattle.std.specs.Prelude.{◌≡◌, Bool, true, false, ◌&&◌, cond, T, leb, ltb, Float, length, get_or, replicate}
use Rattle.std.proofs.Math.Path.{refl, ap}
use Rattle.std.proofs.Common.{sym, ◌∙◌, subst, arith, ltb-true, ltb-false, leb-true, leb-false}
use mathlib.Core.List.Perm
use mathlib.Core.List.{List, [], ◌∷◌, filter_map, filter_map-cons-none, filter_map-cons-some, Perm}
use Rattle.std.proofs.Math.Option.{Option, none, some}
use Rattle.std.proofs.lemmas.List.{length-map, length-replicate, get_or-replicate}
use Rattle.floats.specs.Arithmetic.{◌+ˢ◌, zeroᶠ}
use Rattle.event.specs.declared.Event.{Event}
use Rattle.ledger.specs.TickSamples.{tick_sum, tick_sample}
use Rattle.ledger.specs.BlockSamples.{Span, first_place, end_place, faded_run, add_at, channel_after, scratch_after, block_sum}
use Rattle.ledger.proofs.FadesByPlace.{length-faded-run}
use Rattle.ledger.proofs.FormerMethod.{length_channel}
use Rattle.sums.specs.Multiples.{multiples, summed, exact_sum, Exactly}
use Rattle.sums.specs.Contributions.{tick_contributions, contribution, block_contributions}
use Rattle.sums.specs.Theorem.{Sums}
use Rattle.sums.proofs.Theorem.{sums}
use Rattle.sums.specs.AnyOrder.{plus}

-- ---- the sample of a tick

pub tick_sum_lem : (pool : List Float) (t : Float) (s : List Event) (out : Float) → (tick_sum pool t s out).out ≡ summed out (tick_contributions pool t s)
unfolding tick_sum summed
tick_sum_lem pool t [] out = refl
tick_sum_lem pool t (e ∷ s) out = tick_sum_lem pool t s (out +ˢ tick_sample pool t e)

-- ---- a run added to a channel, place by place

added-before : (s : ℕ) (run l : List Float) (k : ℕ) → k < s → get_or (add_at s run l) k zeroᶠ ≡ get_or l k zeroᶠ
unfolding add_at
added-before s run [] k h = refl
added-before zero run (x ∷ l) k h = absurd (omega arith)
added-before (suc s) run (x ∷ l) zero h = refl
added-before (suc s) run (x ∷ l) (suc k) h = added-before s run l k (omega arith)

added-inside : (s : ℕ) (run l : List Float) (k : ℕ) → s ≤ k → k < s + length run → k < length l → get_or (add_at s run l) k zeroᶠ ≡ get_or l k zeroᶠ +ˢ get_or run (k - s) zeroᶠ
unfolding add_at
added-inside s run [] k h g n = absurd (omega arith)
added-inside (suc s) run (x ∷ l) zero h g n = absurd (omega arith)
added-inside (suc s) run (x ∷ l) (suc k) h g n = added-inside s run l k (omega arith) (omega arith) (omega arith) ∙ ap (λ (j : ℕ). get_or l k zeroᶠ +ˢ get_or run j zeroᶠ) (omega arith)
added-inside zero [] (x ∷ l) k h g n = absurd (omega arith)
added-inside zero (y ∷ run) (x ∷ l) zero h g n = refl
added-inside zero (y ∷ run) (x ∷ l) (suc k) h g n =
    let p : k - 0 ≡ k = omega arith in
    let q : suc k - 0 ≡ suc k = omega arith in
    added-inside zero run l k (omega arith) (omega arith) (omega arith)
    ∙ ap (λ (j : ℕ). get_or l k zeroᶠ +ˢ get_or run j zeroᶠ) p ∙ ap (λ (j : ℕ). get_or l k zeroᶠ +ˢ get_or (y ∷ run) j zeroᶠ) (sym q)

added-behind : (s : ℕ) (run l : List Float) (k : ℕ) → s + length run ≤ k → get_or (add_at s run l) k zeroᶠ ≡ get_or l k zeroᶠ
unfolding add_at
added-behind s run [] k h = refl
added-behind (suc s) run (x ∷ l) zero h = absurd (omega arith)
added-behind (suc s) run (x ∷ l) (suc k) h = added-behind s run l k (omega arith)
added-behind zero [] (x ∷ l) k h = refl
added-behind zero (y ∷ run) (x ∷ l) zero h = absurd (omega arith)
added-behind zero (y ∷ run) (x ∷ l) (suc k) h = added-behind zero run l k (omega arith)

module _ (pool : List Float) (b : Span) (k : ℕ) where
  channel_at : (e : Event) (channel : List Float) → k < length channel → get_or (channel_after pool b e channel) k zeroᶠ ≡ plus (get_or channel k zeroᶠ) (contribution pool b k e)
  unfolding channel_after
  channel_at e channel n = go (ltb s z) refl (leb s k) refl (ltb k z) refl
    where
      s : ℕ
      s = first_place b e

      z : ℕ
      z = end_place b e

      run : List Float
      run = faded_run pool b s z e

      x : Float
      x = get_or channel k zeroᶠ

      go : (t : Bool) → ltb s z ≡ t → (p : Bool) → leb s k ≡ p → (q : Bool) → ltb k z ≡ q
          → get_or (cond t (add_at s run channel) channel) k zeroᶠ ≡ plus x (cond (p && q) (some (get_or run (k - s) zeroᶠ)) none)
      go true h true i true j = added-inside s run channel k (leb-true s k i) (omega (arith, leb-true s k i, ltb-true k z j, length-faded-run pool b s z e)) n
      go true h true i false j = added-behind s run channel k (omega (arith, ltb-true s z h, ltb-false k z j, length-faded-run pool b s z e))
      go true h false i q j = added-before s run channel k (leb-false s k i)
      go false h true i true j = absurd (omega (arith, ltb-false s z h, leb-true s k i, ltb-true k z j))
      go false h true i false j = refl
      go false h false i q j = refl

  contributed : (o : Option Float) (e : Event) (s : List Event) (x : Float) → contribution pool b k e ≡ o → summed (plus x o) (block_contributions pool b k s) ≡ summed x (block_contributions pool b k (e ∷ s))
  unfolding summed
  contributed none e s x h = ap (summed x) (sym (filter_map-cons-none (contribution pool b k) e s h))
  contributed (some y) e s x h = ap (summed x) (sym (filter_map-cons-some (contribution pool b k) e s h))

  pub block-sum : (s : List Event) (channel scratch : List Float) → k < length channel
      → get_or (block_sum pool b s channel scratch).channel k zeroᶠ ≡ summed (get_or channel k zeroᶠ) (block_contributions pool b k s)
  unfolding block_sum summed filter_map
  block-sum [] channel scratch n = refl
  block-sum (e ∷ s) channel scratch n =
      block-sum s (channel_after pool b e channel) (scratch_after pool b e scratch) (omega (arith, length_channel pool b e channel))
      ∙ ap (λ (x : Float). summed x (block_contributions pool b k s)) (channel_at e channel n)
      ∙ contributed (contribution pool b k e) e s (get_or channel k zeroᶠ) refl

-- ---- any order: of contributions that are such multiples, whatever the factors they came by

module _ (pool : List Float) (t : Float) (s : List Event) (few : length s ≤ 256) (all : T (multiples (tick_contributions pool t s))) where
  pub sums_of_tick : Sums (tick_contributions pool t s)
  sums_of_tick = sums (tick_contributions pool t s) all (omega (arith, length-map s (tick_sample pool t)))

  pub tick_any_order : (r : List Event) → Perm s r → (tick_sum pool t r zeroᶠ).out ≡ (tick_sum pool t s zeroᶠ).out
  tick_any_order r p = tick_sum_lem pool t r zeroᶠ ∙ sums_of_tick.any_order (tick_contributions pool t r) (Perm.map (tick_sample pool t) p) ∙ sym (tick_sum_lem pool t s zeroᶠ)

  pub tick_exact : Exactly (tick_sum pool t s zeroᶠ).out (exact_sum (tick_contributions pool t s))
  tick_exact = subst (λ (x : Float). Exactly x (exact_sum (tick_contributions pool t s))) (sym (tick_sum_lem pool t s zeroᶠ)) sums_of_tick.exact

no_more : (pool : List Float) (b : Span) (k : ℕ) (s : List Event) → length (block_contributions pool b k s) ≤ length s
unfolding filter_map
no_more pool b k [] = omega arith
no_more pool b k (e ∷ s) = go (contribution pool b k e) refl (no_more pool b k s)
  where
    go : (o : Option Float) → contribution pool b k e ≡ o → length (block_contributions pool b k s) ≤ length s → length (block_contributions pool b k (e ∷ s)) ≤ suc (length s)
    go none h n = omega (arith, ap length (filter_map-cons-none (contribution pool b k) e s h), n)
    go (some y) h n = omega (arith, ap length (filter_map-cons-some (contribution pool b k) e s h), n)

module _ (pool : List Float) (b : Span) (k : ℕ) (s : List Event) (few : length s ≤ 256) (all : T (multiples (block_contributions pool b k s))) where
  pub sums_of_block : Sums (block_contributions pool b k s)
  sums_of_block = sums (block_contributions pool b k s) all (omega (arith, no_more pool b k s))

  -- at a place of the channel that the block has cleared
  module _ (m : ℕ) (inside : k < m) where
    sample : (r : List Event) → get_or (block_sum pool b r (replicate m zeroᶠ) []).channel k zeroᶠ ≡ summed zeroᶠ (block_contributions pool b k r)
    sample r =
        block-sum pool b k r (replicate m zeroᶠ) [] (omega (arith, length-replicate m zeroᶠ))
        ∙ ap (λ (x : Float). summed x (block_contributions pool b k r)) (get_or-replicate m k zeroᶠ zeroᶠ inside)

    pub block-any_order : (r : List Event) → Perm s r
        → get_or (block_sum pool b r (replicate m zeroᶠ) []).channel k zeroᶠ ≡ get_or (block_sum pool b s (replicate m zeroᶠ) []).channel k zeroᶠ
    block-any_order r p = sample r ∙ sums_of_block.any_order (block_contributions pool b k r) (Perm.filter_map (contribution pool b k) p) ∙ sym (sample s)

    pub block-exact : Exactly (get_or (block_sum pool b s (replicate m zeroᶠ) []).channel k zeroᶠ) (exact_sum (block_contributions pool b k s))
    block-exact = subst (λ (x : Float). Exactly x (exact_sum (block_contributions pool b k s))) (sym (sample s)) sums_of_block.exact
