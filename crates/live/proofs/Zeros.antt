-- Arrays of zeros, but for six places, hold a fresh engine.
use Rattle.std.proofs.Common.{◌≡◌, ℕ, zero, suc, ◌+◌, ◌*◌, ◌%◌, ◌<◌, ◌≤◌, eqb, leb, ◌≢◌, List, ◌∷◌, length, get_or, set, replicate, refl, ap, ◌∙◌, ap₂, arith, length-set, get_or-set_other, get_or-set_same}
use lib.Ieee.{Float, nan}
use lib.ListN.{get_or-replicate, length-replicate}
use Rattle.event.specs.declared.ReplayMode.{ReplayMode}
use Rattle.event.specs.declared.ReplayMode.TheVariants.{All, None}
use Rattle.floats.specs.Arithmetic.{◌÷ᵈ◌, zeroᶠ, oneᶠ, -∞, whole}
use Rattle.ready.specs.Waiting.{unused}
use Rattle.ready.specs.Waiting as Waiting
use Rattle.lists.specs.Edits as Edits
use Rattle.sequencer.specs.Creation.{fresh_engine}
use Rattle.memory.specs.Rows.{rows}
use Rattle.memory.specs.Memory.{Cells, cells_of, ease_if, source_in, event_at, id_at, edit_at, mode_if, engine_of}
use Rattle.live.specs.CallContracts.{mode_number}

rows_all : {A : Type 0} (g : ℕ → A) (x : A) (i n : ℕ) → ((j : ℕ) → i ≤ j → j < i + n → g j ≡ x) → rows g i n ≡ replicate n x
unfolding rows
rows_all g x i zero h = refl
rows_all g x i (suc n) h = ap₂ {C = List _} (λ y ys. y ∷ ys) (h i (omega arith) (omega arith)) (rows_all g x (suc i) n (λ j p q. h j (omega arith) (omega arith)))

module _ (t l : List Float) (ms n : List ℕ) (qt : t ≡ replicate 3588 zeroᶠ) (ql : l ≡ replicate 3072 zeroᶠ) (qm : ms ≡ replicate 3072 0) (qn : n ≡ replicate 1288 0) (θ r u : Float) (c m k : ℕ) where
  abbrev made : Cells
  made = cells_of (set (set (set t 3073 θ) 3074 r) 3075 u) l ms (set (set (set n 1284 c) 1285 m) 1286 k)

  times_long : length t ≡ 3588
  times_long = ap length qt ∙ length-replicate 3588 zeroᶠ

  numbers-long : length n ≡ 1288
  numbers-long = ap length qn ∙ length-replicate {A = ℕ} 1288 0

  time_set : (i : ℕ) → i ≢ 3073 → i ≢ 3074 → i ≢ 3075 → get_or made.times i nan ≡ get_or t i nan
  time_set i p q w = get_or-set_other (set (set t 3073 θ) 3074 r) 3075 i u nan w ∙ get_or-set_other (set t 3073 θ) 3074 i r nan q ∙ get_or-set_other t 3073 i θ nan p

  time-0 : (i : ℕ) → i < 3588 → i ≢ 3073 → i ≢ 3074 → i ≢ 3075 → get_or made.times i nan ≡ zeroᶠ
  time-0 i h p q w = time_set i p q w ∙ ap (λ (x : List Float). get_or x i nan) qt ∙ get_or-replicate 3588 i zeroᶠ nan h

  slot_time : (i : ℕ) → i < 3073 → get_or made.times i nan ≡ zeroᶠ
  slot_time i h = time-0 i (omega arith) (λ e. absurd (omega (arith, e))) (λ e. absurd (omega (arith, e))) (λ e. absurd (omega (arith, e)))

  edit_time : (i : ℕ) → 3075 < i → i < 3588 → get_or made.times i nan ≡ zeroᶠ
  edit_time i g h = time-0 i h (λ e. absurd (omega (arith, e))) (λ e. absurd (omega (arith, e))) (λ e. absurd (omega (arith, e)))

  level-0 : (i : ℕ) → i < 3072 → get_or l i nan ≡ zeroᶠ
  level-0 i h = ap (λ (x : List Float). get_or x i nan) ql ∙ get_or-replicate 3072 i zeroᶠ nan h

  mark-0 : (i : ℕ) → i < 3072 → get_or ms i 0 ≡ 0
  mark-0 i h = ap (λ (x : List ℕ). get_or x i 0) qm ∙ get_or-replicate 3072 i 0 0 h

  number_set : (i : ℕ) → i ≢ 1284 → i ≢ 1285 → i ≢ 1286 → get_or made.numbers i 0 ≡ get_or n i 0
  number_set i p q w = get_or-set_other (set (set n 1284 c) 1285 m) 1286 i k 0 w ∙ get_or-set_other (set n 1284 c) 1285 i m 0 q ∙ get_or-set_other n 1284 i c 0 p

  number-0 : (i : ℕ) → i < 1288 → i ≢ 1284 → i ≢ 1285 → i ≢ 1286 → get_or made.numbers i 0 ≡ 0
  number-0 i h p q w = number_set i p q w ∙ ap (λ (x : List ℕ). get_or x i 0) qn ∙ get_or-replicate 1288 i 0 0 h

  slot_number : (i : ℕ) → i < 1284 → get_or made.numbers i 0 ≡ 0
  slot_number i h = number-0 i (omega arith) (λ e. absurd (omega (arith, e))) (λ e. absurd (omega (arith, e))) (λ e. absurd (omega (arith, e)))

  slot-0 : (j : ℕ) → j < 768 → event_at made j ≡ unused
  slot-0 j h = λ d. record {
    start_time = slot_time (4 * j) (omega arith) d;
    end_time = slot_time (4 * j + 1) (omega arith) d;
    fade_in = slot_time (4 * j + 2) (omega arith) d;
    fade_out = slot_time (4 * j + 3) (omega arith) d;
    fade_ease = ease_if (leb 4 (mark-0 (4 * j) (omega arith) d));
    unit = record {
      source = source_in (mark-0 (4 * j) (omega arith) d % 4) (level-0 (4 * j + 2) (omega arith) d) (level-0 (4 * j + 3) (omega arith) d) (mark-0 (4 * j + 1) (omega arith) d) (mark-0 (4 * j + 2) (omega arith) d);
      value = level-0 (4 * j + 1) (omega arith) d;
      place = mark-0 (4 * j + 3) (omega arith) d;
    };
    gain = level-0 (4 * j) (omega arith) d;
    id = record { 0 = slot_number j (omega arith) d };
  }

  edit-0 : (j : ℕ) → 1024 ≤ j → j < 1024 + 256 → edit_at made j ≡ record { id = record { 0 = 0 }; edit = record { end_time = zeroᶠ; fade_out = zeroᶠ } }
  edit-0 j g h = λ d. record {
    id = record { 0 = slot_number j (omega arith) d };
    edit = record { end_time = edit_time (1028 + 2 * j) (omega arith) (omega arith) d; fade_out = edit_time (1029 + 2 * j) (omega arith) (omega arith) d };
  }

  events-0 : (i : ℕ) → i + 256 ≤ 768 → rows (event_at made) i 256 ≡ (Waiting.emptied).items
  unfolding Waiting.emptied
  events-0 i h = rows_all (event_at made) unused i 256 (λ j p q. slot-0 j (omega (arith, h, p, q)))

  edits-0 : rows (edit_at made) 1024 256 ≡ (Edits.emptied).items
  unfolding Edits.emptied
  edits-0 = rows_all (edit_at made) _ 1024 256 (λ j p q. edit-0 j p q)

  ids-0 : rows (id_at made) 768 256 ≡ replicate 256 (record { 0 = 0 })
  ids-0 = rows_all (id_at made) (record { 0 = 0 }) 768 256 (λ j p q. ap (λ (x : ℕ). record { 0 = x }) (slot_number j (omega arith)))

  threshold_is : get_or made.times 3073 nan ≡ θ
  threshold_is =
      get_or-set_other (set (set t 3073 θ) 3074 r) 3075 3073 u nan (λ e. absurd (omega (arith, e))) ∙ get_or-set_other (set t 3073 θ) 3074 3073 r nan (λ e. absurd (omega (arith, e)))
      ∙ get_or-set_same t 3073 θ nan (omega (arith, times_long))

  rate-is : get_or made.times 3074 nan ≡ r
  rate-is = get_or-set_other (set (set t 3073 θ) 3074 r) 3075 3074 u nan (λ e. absurd (omega (arith, e))) ∙ get_or-set_same (set t 3073 θ) 3074 r nan (omega (arith, times_long, length-set t 3073 θ))

  duration_is : get_or made.times 3075 nan ≡ u
  duration_is = get_or-set_same (set (set t 3073 θ) 3074 r) 3075 u nan (omega (arith, times_long, length-set t 3073 θ, length-set (set t 3073 θ) 3074 r))

  channels_is : get_or made.numbers 1284 0 ≡ c
  channels_is =
      get_or-set_other (set (set n 1284 c) 1285 m) 1286 1284 k 0 (λ e. absurd (omega (arith, e))) ∙ get_or-set_other (set n 1284 c) 1285 1284 m 0 (λ e. absurd (omega (arith, e)))
      ∙ get_or-set_same n 1284 c 0 (omega (arith, numbers-long))

  mode_is : get_or made.numbers 1285 0 ≡ m
  mode_is = get_or-set_other (set (set n 1284 c) 1285 m) 1286 1285 k 0 (λ e. absurd (omega (arith, e))) ∙ get_or-set_same (set n 1284 c) 1285 m 0 (omega (arith, numbers-long, length-set n 1284 c))

  first-is : get_or made.numbers 1286 0 ≡ k
  first-is = get_or-set_same (set (set n 1284 c) 1285 m) 1286 k 0 (omega (arith, numbers-long, length-set n 1284 c, length-set (set n 1284 c) 1285 m))

  pub fresh-is : θ ≡ -∞ → r ≡ whole 44_100 → u ≡ oneᶠ ÷ᵈ whole 44_100 → engine_of made ≡ fresh_engine c (mode_if (eqb m 0)) k
  unfolding engine_of fresh_engine Edits.emptied
  fresh-is p q w = λ d. record {
    ready = events-0 0 (omega arith) d;
    ready_len = slot_number 1280 (omega arith) d;
    active = events-0 256 (omega arith) d;
    active_len = slot_number 1281 (omega arith) d;
    active_map = ids-0 d;
    past = events-0 512 (omega arith) d;
    past_len = slot_number 1282 (omega arith) d;
    edit_map = record { items = edits-0 d; len = slot_number 1283 (omega arith) d };
    time = slot_time 3072 (omega arith) d;
    active_threshold = (threshold_is ∙ p) d;
    sample_rate = (rate-is ∙ q) d;
    sample_duration = (duration_is ∙ w) d;
    outputs = channels_is d;
    mode = mode_if (eqb (mode_is d) 0);
    next = first-is d;
    let_go = number-0 1287 (omega arith) (λ e. absurd (omega (arith, e))) (λ e. absurd (omega (arith, e))) (λ e. absurd (omega (arith, e))) d;
  }

-- the number of a mode tells the mode
pub mode_told : (m : ReplayMode) → mode_if (eqb (mode_number m) 0) ≡ m
mode_told All = refl
mode_told None = refl
