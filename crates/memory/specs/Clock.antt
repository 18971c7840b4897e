-- One of the four times behind the slots, and the count of the stored edits: what the engine is once it is written.
use Rattle.std.specs.Prelude.{◌≢◌, ◌≡◌, ℕ, ◌+◌, ◌*◌, ◌≤◌, ◌<◌, eqb, Float, set}
use Rattle.std.proofs.Math.Path.{refl}
use Rattle.std.proofs.Common.{◌∙◌, arith, length-set, get_or-set_same, get_or-set_other}
use Rattle.std.specs.Float.Ieee.{nan}
use Rattle.std.proofs.Math.ListN.{get_or}
use Rattle.sequencer.specs.Parts.{with_times, with_rate}
use Rattle.memory.specs.Rows.{rows, rows_same}
use Rattle.memory.specs.Memory.{Cells, cells_of, event_at, id_at, edit_at, mode_if, engine_of}
use Rattle.memory.specs.Laws.{Sized}

abbrev pub with_time : Cells → (p : ℕ) → (x : Float) → Cells
with_time c p x = cells_of (set c.times p x) c.levels c.marks c.numbers

module _ (c : Cells) (p : ℕ) (x : Float) where
  pub time_sized : Sized c → Sized (with_time c p x)
  time_sized z = record { times = length-set c.times p x ∙ z.times; levels = z.levels; marks = z.marks; numbers = z.numbers }

  at : (q : ℕ) → q ≢ p → get_or (set c.times p x) q nan ≡ get_or c.times q nan
  at q h = get_or-set_other c.times p q x nan h

  slots : (i : ℕ) → 3072 ≤ p → i + 256 ≤ 768 → rows (event_at (with_time c p x)) i 256 ≡ rows (event_at c) i 256
  slots i h g = rows_same (event_at c) (event_at (with_time c p x)) i 256 (λ j l u.
      rw (
        at (4 * j) (λ e. absurd (omega (arith, h, g, u, e))),
        at (4 * j + 1) (λ e. absurd (omega (arith, h, g, u, e))),
        at (4 * j + 2) (λ e. absurd (omega (arith, h, g, u, e))),
        at (4 * j + 3) (λ e. absurd (omega (arith, h, g, u, e))),
      ))

  edits : p < 3076 → rows (edit_at (with_time c p x)) 1024 256 ≡ rows (edit_at c) 1024 256
  edits h = rows_same (edit_at c) (edit_at (with_time c p x)) 1024 256 (λ j l u.
      rw (at (1028 + 2 * j) (λ e. absurd (omega (arith, h, l, e))), at (1029 + 2 * j) (λ e. absurd (omega (arith, h, l, e)))))

  timed : (t θ r u : Float) → 3072 ≤ p → p < 3076 → get_or (set c.times p x) 3072 nan ≡ t → get_or (set c.times p x) 3073 nan ≡ θ
      → get_or (set c.times p x) 3074 nan ≡ r
      → get_or (set c.times p x) 3075 nan ≡ u → engine_of (with_time c p x) ≡ with_rate (with_times (engine_of c) t θ) r u
  unfolding engine_of
  timed t θ r u h g e0 e1 e2 e3 = λ d. record {
    ready = slots 0 h (omega arith) d;
    ready_len = get_or c.numbers 1280 0;
    active = slots 256 h (omega arith) d;
    active_len = get_or c.numbers 1281 0;
    active_map = rows (id_at c) 768 256;
    past = slots 512 h (omega arith) d;
    past_len = get_or c.numbers 1282 0;
    edit_map = record { items = edits g d; len = get_or c.numbers 1283 0 };
    time = e0 d;
    active_threshold = e1 d;
    sample_rate = e2 d;
    sample_duration = e3 d;
    outputs = get_or c.numbers 1284 0;
    mode = mode_if (eqb (get_or c.numbers 1285 0) 0);
    next = get_or c.numbers 1286 0;
    let_go = get_or c.numbers 1287 0;
  }

module _ (c : Cells) (x : Float) (z : Sized c) where
  pub clock_is : engine_of (with_time c 3072 x) ≡ with_times (engine_of c) x (engine_of c).active_threshold
  unfolding engine_of
  clock_is =
      timed c 3072 x _ _ _ _ (omega arith) (omega arith) (get_or-set_same c.times 3072 x nan (omega (arith, z.times)))
      (at c 3072 x 3073 (λ e. absurd (omega (arith, e))))
      (at c 3072 x 3074 (λ e. absurd (omega (arith, e)))) (at c 3072 x 3075 (λ e. absurd (omega (arith, e))))

  pub threshold_is : engine_of (with_time c 3073 x) ≡ with_times (engine_of c) (engine_of c).time x
  unfolding engine_of
  threshold_is =
      timed c 3073 x _ _ _ _ (omega arith) (omega arith) (at c 3073 x 3072 (λ e. absurd (omega (arith, e))))
      (get_or-set_same c.times 3073 x nan (omega (arith, z.times)))
      (at c 3073 x 3074 (λ e. absurd (omega (arith, e)))) (at c 3073 x 3075 (λ e. absurd (omega (arith, e))))

  pub rate-is : engine_of (with_time c 3074 x) ≡ with_rate (engine_of c) x (engine_of c).sample_duration
  unfolding engine_of
  rate-is =
      timed c 3074 x _ _ _ _ (omega arith) (omega arith) (at c 3074 x 3072 (λ e. absurd (omega (arith, e)))) (at c 3074 x 3073 (λ e. absurd (omega (arith, e))))
      (get_or-set_same c.times 3074 x nan (omega (arith, z.times))) (at c 3074 x 3075 (λ e. absurd (omega (arith, e))))

  pub duration_is : engine_of (with_time c 3075 x) ≡ with_rate (engine_of c) (engine_of c).sample_rate x
  unfolding engine_of
  duration_is =
      timed c 3075 x _ _ _ _ (omega arith) (omega arith) (at c 3075 x 3072 (λ e. absurd (omega (arith, e)))) (at c 3075 x 3073 (λ e. absurd (omega (arith, e))))
      (at c 3075 x 3074 (λ e. absurd (omega (arith, e)))) (get_or-set_same c.times 3075 x nan (omega (arith, z.times)))

-- ---- what the engine reads
module _ (c : Cells) where
  pub clock_in : get_or c.times 3072 nan ≡ (engine_of c).time
  unfolding engine_of
  clock_in = refl

  pub threshold_in : get_or c.times 3073 nan ≡ (engine_of c).active_threshold
  unfolding engine_of
  threshold_in = refl

  pub rate_in : get_or c.times 3074 nan ≡ (engine_of c).sample_rate
  unfolding engine_of
  rate_in = refl

  pub duration_in : get_or c.times 3075 nan ≡ (engine_of c).sample_duration
  unfolding engine_of
  duration_in = refl

  pub channels_in : get_or c.numbers 1284 0 ≡ (engine_of c).outputs
  unfolding engine_of
  channels_in = refl

  pub mode_in : mode_if (eqb (get_or c.numbers 1285 0) 0) ≡ (engine_of c).mode
  unfolding engine_of
  mode_in = refl

  pub let_go_in : get_or c.numbers 1287 0 ≡ (engine_of c).let_go
  unfolding engine_of
  let_go_in = refl
