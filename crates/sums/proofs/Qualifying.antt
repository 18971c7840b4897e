-- Document 02, Paper 9: where no fade factor is applied, the gain is 1.0 and the source's sample is a multiple of 1/32768 within -1 and 1, the contribution is such a multiple. Assumes nothing.
use Rattle.std.specs.Prelude.{ℕ, ◌+◌, ◌-◌, ◌*◌, ◌≤◌, ◌<◌, ◌≡◌, Bool, true, false, not, ◌&&◌, cond, T, leb, ltb, length}
use Rattle.std.proofs.Math.Path.{refl}
use Rattle.std.proofs.Common.{sym, ap, ◌∙◌, subst, mul-one, arith, leb→le, ltb→lt, lit<}
use mathlib.Core.List.{List, [], ◌∷◌, filter_map, filter_map-cons-none, filter_map-cons-some}
use Rattle.std.proofs.Math.Option.{none, some}
use Rattle.std.specs.Float.Ieee.{Float, up, down, unlike, mul}
use Rattle.std.specs.Float.{nan, inf, fin, binary32}
use Rattle.std.specs.Float.Ieee.Fits.{and_l, and_r, and_i, down_pos}
use Rattle.std.specs.Float.Ieee.Exact.{HasValue}
use Rattle.std.specs.Float.Ieee.Scale.{round_same}
use Rattle.std.proofs.Math.ListN.{get_or}
use Rattle.floats.specs.Arithmetic.{◌+ᵈ◌, ◌-ᵈ◌, ◌×ˢ◌, ◌<ᶠ◌, zeroᶠ, oneᶠ}
use Rattle.floats.specs.Floats.{narrowed}
use Rattle.math.specs.Curves.{delerped}
use Rattle.event.specs.declared.Event.{Event}
use Rattle.event.specs.Sources.{sample_of, next_samples}
use Rattle.ledger.specs.TickSamples.{tick_sample, faded_in, faded_out}
use Rattle.ledger.specs.BlockSamples.{Span, first_place, end_place, fade_in_place, fade_out_place, faded_run}
use Rattle.ledger.specs.FadesByPlace.{faded_in_at, faded_out_at}
use Rattle.ledger.proofs.FadesByPlace.{fades_by_place}
use Rattle.sums.specs.Multiples.{multiple, multiples}
use Rattle.sums.proofs.AnyOrder.{sums_of_tick, sums_of_block}
use Rattle.sums.proofs.Exact.{part, multiple_of, round-exactly}
use Rattle.sums.specs.Contributions.{All, tick_contributions, unfaded_tick, TickQualifies, sounds_at, contribution, block_contributions, unfaded_at, BlockQualifies}
use Rattle.sums.specs.Theorem.{Sums}

-- ---- times 1.0

times-one : (x : Float) → T (multiple x) → T (multiple (x ×ˢ oneᶠ))
unfolding mul multiple
times-one nan t = absurd t
times-one (inf s) t = absurd t
times-one (fin s m e) t =
    let p = part (fin s m e) t in
    let same : m * up e * 1 * 32768 ≡ p.size * (down e * 1) = rw (mul-one (m * up e), mul-one (down e)) p.value.1 in
    let wide : 0 < down e * 1 = subst (λ (d : ℕ). 0 < d) (sym (mul-one (down e))) (down_pos e) in
    multiple_of (fin s m e ×ˢ oneᶠ) (unlike s false) p.size p.small
    (subst (λ (x : Float). HasValue x (unlike s false) p.size 32768) (sym (round_same binary32 (unlike s false) (m * up e * 1) (down e * 1) p.size 32768 wide (lit< tt) same))
    (round-exactly (unlike s false) p.size (omega (arith, p.small))))

at_one : (x g : Float) → g ≡ oneᶠ → T (multiple x) → T (multiple (x ×ˢ g))
at_one x g h t = subst (λ (g : Float). T (multiple (x ×ˢ g))) (sym h) (times-one x t)

-- ---- a fade that is not applied

untaken : (c : Bool) (a x : Float) → T (not c) → cond c a x ≡ x
untaken true a x t = absurd t
untaken false a x t = refl

untaken2 : (c d : Bool) (a x : Float) → T (not (c && d)) → cond c (cond d a x) x ≡ x
untaken2 true true a x t = absurd t
untaken2 true false a x t = refl
untaken2 false d a x t = refl

-- ---- a tick

pub tick_unfaded : (t : Float) (e : Event) (x : Float) → T (unfaded_tick t e) → faded_out t e (faded_in t e x) ≡ x
unfolding faded_in faded_out
tick_unfaded t e x u =
    let rise = narrowed (delerped e.start_time (e.start_time +ᵈ e.fade_in) t) in
    let fall = narrowed (delerped (e.end_time -ᵈ e.fade_out) e.end_time t) in
    let rises : Bool = zeroᶠ <ᶠ e.fade_in && rise <ᶠ oneᶠ in
    let falls : Bool = zeroᶠ <ᶠ e.fade_out && zeroᶠ <ᶠ fall in
    untaken falls _ (faded_in t e x) (and_r (not rises) (not falls) u) ∙ untaken rises _ x (and_l (not rises) (not falls) u)

tick_one : (pool : List Float) (t : Float) (e : Event) → TickQualifies pool t e → T (multiple (tick_sample pool t e))
tick_one pool t e q =
    let x = sample_of pool e.unit in
    subst (λ (y : Float). T (multiple y)) (sym (tick_unfaded t e (x ×ˢ e.gain) q.0)) (at_one x e.gain q.1 q.2)

pub tick_qualifies : (pool : List Float) (t : Float) (s : List Event) → All (TickQualifies pool t) s → T (multiples (tick_contributions pool t s))
unfolding multiples
tick_qualifies pool t [] q = tt
tick_qualifies pool t (e ∷ s) q = and_i (multiple (tick_sample pool t e)) (multiples (tick_contributions pool t s)) (tick_one pool t e q.0) (tick_qualifies pool t s q.1)

-- ---- a block

pub block_unfaded : (b : Span) (k : ℕ) (e : Event) (x : Float) → T (unfaded_at b k e) → let s = first_place b e in faded_out_at b s k e (faded_in_at b s (end_place b e) k e x) ≡ x
block_unfaded b k e x u =
    let rises : Bool = zeroᶠ <ᶠ e.fade_in && b.clock <ᶠ e.start_time +ᵈ e.fade_in in
    let falls : Bool = zeroᶠ <ᶠ e.fade_out && e.end_time -ᵈ e.fade_out <ᶠ b.upto in
    let below : Bool = ltb k (fade_in_place b (end_place b e) e) in
    let behind : Bool = leb (fade_out_place b e) k in
    untaken2 falls behind _ (faded_in_at b (first_place b e) (end_place b e) k e x) (and_r (not (rises && below)) (not (falls && behind)) u)
    ∙ untaken2 rises below _ x (and_l (not (rises && below)) (not (falls && behind)) u)

module _ (pool : List Float) (b : Span) (k : ℕ) where
  block_one : (e : Event) → BlockQualifies pool b k e → T (sounds_at b k e) → T (multiple (get_or (faded_run pool b (first_place b e) (end_place b e) e) (k - first_place b e) zeroᶠ))
  block_one e q sounds =
      let s = first_place b e in
      let z = end_place b e in
      let x = get_or (next_samples pool e.unit (z - s)) (k - s) zeroᶠ in
      let from : s ≤ k = leb→le s k (and_l (leb s k) (ltb k z) sounds) in
      let upto : k < z = ltb→lt k z (and_r (leb s k) (ltb k z) sounds) in
      let here : s + (k - s) ≡ k = omega arith in
      let is = fades_by_place pool b s z e (k - s) (omega arith) ∙ ap (λ (p : ℕ). faded_out_at b s p e (faded_in_at b s z p e (x ×ˢ e.gain))) here in
      subst (λ (y : Float). T (multiple y)) (sym (is ∙ block_unfaded b k e (x ×ˢ e.gain) (q sounds).0)) (at_one x e.gain (q sounds).1 (q sounds).2)

  pub block_qualifies : (s : List Event) → All (BlockQualifies pool b k) s → T (multiples (block_contributions pool b k s))
  unfolding multiples filter_map
  block_qualifies [] q = tt
  block_qualifies (e ∷ s) q = go (sounds_at b k e) refl (block_qualifies s q.1) (block_one e q.0)
    where
      y : Float
      y = get_or (faded_run pool b (first_place b e) (end_place b e) e) (k - first_place b e) zeroᶠ

      go : (c : Bool) → sounds_at b k e ≡ c → T (multiples (block_contributions pool b k s)) → (T (sounds_at b k e) → T (multiple y)) → T (multiples (block_contributions pool b k (e ∷ s)))
      go true h rest one =
          subst (λ (l : List Float). T (multiples l)) (sym (filter_map-cons-some (contribution pool b k) e s (ap (λ (c : Bool). cond c (some y) none) h)))
          (and_i (multiple y) (multiples (block_contributions pool b k s)) (one (subst T (sym h) tt)) rest)
      go false h rest one = subst (λ (l : List Float). T (multiples l)) (sym (filter_map-cons-none (contribution pool b k) e s (ap (λ (c : Bool). cond c (some y) none) h))) rest

-- ---- "any order of at most 256 contributions added from +0.0 gives the same bits, and these are the exact sum", at every sample at which all of them qualify

pub tick_sums : (pool : List Float) (t : Float) (s : List Event) → length s ≤ 256 → All (TickQualifies pool t) s → Sums (tick_contributions pool t s)
tick_sums pool t s few q = sums_of_tick pool t s few (tick_qualifies pool t s q)

pub block-sums : (pool : List Float) (b : Span) (k : ℕ) (s : List Event) → length s ≤ 256 → All (BlockQualifies pool b k) s → Sums (block_contributions pool b k s)
block-sums pool b k s few q = sums_of_block pool b k s few (block_qualifies pool b k s q)
