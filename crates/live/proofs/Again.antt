-- All let go, the clock set back, and a new rate, as the engine has them.
use Rattle.std.proofs.Common.{◌≡◌, ℕ, ◌+◌, ◌%◌, ◌^◌, min, true, false, eqb, List, get_or, set, sym, refl, ap, ◌∙◌, eq-eqb}
use lib.Ieee.{Float, eq, nan}
use Rattle.floats.specs.Arithmetic.{◌÷ᵈ◌, zeroᶠ, oneᶠ, -∞}
use Rattle.refusals.specs.Refusals.{rate_refusal}
use Rattle.sequencer.specs.declared.Sequencer.{Sequencer}
use Rattle.sequencer.specs.declared.Answer.TheVariants.{Done, Refused}
use Rattle.sequencer.specs.Parts.{with_ready, with_active, with_past, with_edits, with_times, with_rate}
use Rattle.sequencer.specs.Moves.{all_to_ready}
use Rattle.sequencer.specs.Resets.{emptied_lists, rewound_ready, reset_by, resets, re_rated, rates}
use Rattle.memory.specs.Memory.{Cells, cells_of, mode_if, engine_of}
use Rattle.memory.specs.Laws.{Sized, with_number, number_sized, waiting_is, sounding_is, finished_is, let_go_is}
use Rattle.live.specs.CallContracts.{gone_all}
use Rattle.memory.specs.Clock.{with_time, time_sized, clock_is, threshold_is, rate-is, duration_is, mode_in, rate_in}
use Rattle.memory.specs.Edits.{edits_are}

-- ---- counts

module _ (c : Cells) (z : Sized c) where
  pub all_gone : (g : ℕ) → engine_of (with_number (with_number (with_number (with_number (with_number c 1287 g) 1280 0) 1281 0) 1282 0) 1283 0) ≡ emptied_lists (engine_of c) g
  all_gone g =
      let c1 = with_number c 1287 g in
      let z1 : Sized c1 = number_sized c 1287 g z in
      let c2 = with_number c1 1280 0 in
      let z2 : Sized c2 = number_sized c1 1280 0 z1 in
      let c3 = with_number c2 1281 0 in
      let z3 : Sized c3 = number_sized c2 1281 0 z2 in
      let c4 = with_number c3 1282 0 in
      edits_are c4 0 (number_sized c3 1282 0 z3)
      ∙ ap (λ (x : Sequencer). with_edits x (record { items = x.edit_map.items; len = 0 })) (finished_is c3 0 z3)
      ∙ ap (λ (x : Sequencer). with_edits (with_past x x.past 0) (record { items = x.edit_map.items; len = 0 })) (sounding_is c2 0 z2)
      ∙ ap (λ (x : Sequencer). with_edits (with_past (with_active x x.active x.active_map 0) x.past 0) (record { items = x.edit_map.items; len = 0 })) (waiting_is c1 0 z1)
      ∙ ap (λ (x : Sequencer). with_edits (with_past (with_active (with_ready x x.ready 0) x.active x.active_map 0) x.past 0) (record { items = x.edit_map.items; len = 0 })) (let_go_is c g z)

pub gone_is : (c : Cells) (a b d g : ℕ) → a ≡ min (get_or c.numbers 1282 0) 256 → b ≡ min (get_or c.numbers 1280 0) 256 → d ≡ min (get_or c.numbers 1281 0) 256
    → g ≡ (get_or c.numbers 1287 0 + (a + (b + d))) % 2 ^ 64
    → g ≡ gone_all (engine_of c)
unfolding engine_of
gone_is c a b d g p q r w = w ∙ (λ i. (get_or c.numbers 1287 0 + (p i + (q i + r i))) % 2 ^ 64)

-- ---- reset

over-is : (c : Cells) → Sized c → engine_of (with_time (with_time c 3072 zeroᶠ) 3073 -∞) ≡ with_times (engine_of c) zeroᶠ -∞
over-is c z = threshold_is (with_time c 3072 zeroᶠ) -∞ (time_sized c 3072 zeroᶠ z) ∙ ap (λ (x : Sequencer). with_times x x.time -∞) (clock_is c zeroᶠ z)

module _ (c : Cells) (t u l : List Float) (m n : List ℕ) (z : Sized (cells_of t l m n)) (q : u ≡ set (set t 3072 zeroᶠ) 3073 -∞) where
  reset_by_lem : (r : Sequencer) → engine_of (cells_of t l m n) ≡ r → engine_of (cells_of u l m n) ≡ with_times r zeroᶠ -∞
  reset_by_lem r p = ap (λ (x : List Float). engine_of (cells_of x l m n)) q ∙ over-is (cells_of t l m n) z ∙ ap (λ (x : Sequencer). with_times x zeroᶠ -∞) p

  pub reset-all : (a : Sequencer) → a ≡ all_to_ready (engine_of c) → engine_of (cells_of t l m n) ≡ rewound_ready a → get_or c.numbers 1285 0 ≡ 0 → engine_of (cells_of u l m n) ≡ resets (engine_of c)
  unfolding reset_by
  reset-all a p r h = reset_by_lem _ (r ∙ ap rewound_ready p) ∙ sym (ap (reset_by (engine_of c)) (sym (mode_in c) ∙ ap (λ (k : ℕ). mode_if (eqb k 0)) h))

  pub reset-none : engine_of (cells_of t l m n)
      ≡ emptied_lists (engine_of c) (gone_all (engine_of c))
      → eqb (get_or c.numbers 1285 0) 0 ≡ false → engine_of (cells_of u l m n) ≡ resets (engine_of c)
  unfolding reset_by
  reset-none p h = reset_by_lem _ p ∙ sym (ap (reset_by (engine_of c)) (sym (mode_in c) ∙ ap mode_if h))

-- ---- rate

module _ (s : Sequencer) (r : Float) (no : ℕ) (q : no ≡ rate_refusal r) where
  pub rate-refused : eqb no 0 ≡ false → (s ≡ (rates s r).sequencer) × (Refused no ≡ (rates s r).answer)
  unfolding rates
  rate-refused h = rw (← q, h) (refl, refl)

  rate-taken : no ≡ 0 → (t : Sequencer) → t ≡ re_rated s r → (t ≡ (rates s r).sequencer) × (Done ≡ (rates s r).answer)
  unfolding rates
  rate-taken h t g = rw (eq-eqb _ 0 (sym q ∙ h)) (g, refl)

module _ (c : Cells) (r : Float) (no : ℕ) (q : no ≡ rate_refusal r) (h : no ≡ 0) where
  pub rate-same : eq (get_or c.times 3074 nan) r ≡ true → (engine_of c ≡ (rates (engine_of c) r).sequencer) × (Done ≡ (rates (engine_of c) r).answer)
  unfolding re_rated
  rate-same e =
      let g : eq (engine_of c).sample_rate r ≡ true = ap (λ (x : Float). eq x r) (sym (rate_in c)) ∙ e in
      rate-taken (engine_of c) r no q h (engine_of c) (rw g)

  pub rate-other : eq (get_or c.times 3074 nan) r ≡ false → (d : Cells) → Sized d → engine_of d ≡ all_to_ready (engine_of c) → (u θ : Float) → u ≡ oneᶠ ÷ᵈ r → θ ≡ -∞
      → (engine_of (with_time (with_time (with_time d 3074 r) 3075 u) 3073 θ) ≡ (rates (engine_of c) r).sequencer) × (Done ≡ (rates (engine_of c) r).answer)
  unfolding re_rated
  rate-other e d z p u θ qu qθ =
      let g : eq (engine_of c).sample_rate r ≡ false = ap (λ (x : Float). eq x r) (sym (rate_in c)) ∙ e in
      let c1 = with_time d 3074 r in
      let z1 : Sized c1 = time_sized d 3074 r z in
      let c2 = with_time c1 3075 u in
      rate-taken (engine_of c) r no q h _
      (threshold_is c2 θ (time_sized c1 3075 u z1) ∙ ap (λ (x : Sequencer). with_times x x.time θ) (duration_is c1 u z1)
      ∙ ap (λ (x : Sequencer). with_times (with_rate x x.sample_rate u) x.time θ) (rate-is d r z)
      ∙ ap (λ (x : Sequencer). with_times (with_rate x r u) x.time θ) p
      ∙ ap (λ (y : Float). with_times (with_rate (all_to_ready (engine_of c)) r y) (all_to_ready (engine_of c)).time θ) qu
      ∙ ap (λ (y : Float). with_times (with_rate (all_to_ready (engine_of c)) r (oneᶠ ÷ᵈ r)) (all_to_ready (engine_of c)).time y) qθ ∙ rw g)
