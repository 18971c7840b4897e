-- The value and the place of a slot's source are stored.
use Rattle.std.specs.Prelude.{List, ◌≢◌, ◌⊎◌, ◌≡◌, ℕ, ◌+◌, ◌*◌, ◌≤◌, ◌<◌, Float, get_or, set}
use Rattle.std.proofs.Common.{inl, inr, sym, ◌∙◌, subst, lt-ltb, length-set, get_or-set_same, get_or-set_other}
use Rattle.std.proofs.Math.Path.{ap}
use native.Mathlib.Omega.{arith}
use Rattle.std.specs.Float.{nan}
use Rattle.event.specs.declared.Event.{Event}
use Rattle.event.specs.declared.Unit.{Unit}
use Rattle.event.specs.Blank.{blank}
use Rattle.sequencer.specs.declared.Sequencer.{Sequencer}
use Rattle.sequencer.specs.Parts.{with_ready, with_past, with_sounding}
use Rattle.sequencer.specs.Passing.{with_value, with_place}
use Rattle.memory.specs.Rows.{rows, rows_same, rows-set}
use Rattle.memory.specs.Memory.{Cells, cells_of, event_at, engine_of, unit_in}
use Rattle.memory.specs.Laws.{Sized, sounds-at, waits-at}

module _ (c : Cells) (z : Sized c) (j : ℕ) (h : j < 768) (v : Float) (p : ℕ) where
  abbrev after : Cells
  after = cells_of c.times (set c.levels (4 * j + 1) v) (set c.marks (4 * j + 3) p) c.numbers

  level : (i : ℕ) → i ≢ 4 * j + 1 → get_or after.levels i nan ≡ get_or c.levels i nan
  level i n = get_or-set_other c.levels (4 * j + 1) i v nan n

  mark : (i : ℕ) → i ≢ 4 * j + 3 → get_or after.marks i 0 ≡ get_or c.marks i 0
  mark i n = get_or-set_other c.marks (4 * j + 3) i p 0 n

  kept : (k : ℕ) → k ≢ j → event_at after k ≡ event_at c k
  kept k n =
      rw (
        level (4 * k) (λ e. n (omega (arith, e))),
        level (4 * k + 1) (λ e. n (omega (arith, e))),
        level (4 * k + 2) (λ e. n (omega (arith, e))),
        level (4 * k + 3) (λ e. n (omega (arith, e))),
        mark (4 * k) (λ e. n (omega (arith, e))),
        mark (4 * k + 1) (λ e. n (omega (arith, e))),
        mark (4 * k + 2) (λ e. n (omega (arith, e))),
        mark (4 * k + 3) (λ e. n (omega (arith, e))),
      )

  moved : event_at after j ≡ with_place p (with_value v (event_at c j))
  moved =
      rw (
        level (4 * j) (λ e. absurd (omega (arith, e))),
        get_or-set_same c.levels (4 * j + 1) v nan (omega (arith, z.levels)),
        level (4 * j + 2) (λ e. absurd (omega (arith, e))),
        level (4 * j + 3) (λ e. absurd (omega (arith, e))),
        mark (4 * j) (λ e. absurd (omega (arith, e))),
        mark (4 * j + 1) (λ e. absurd (omega (arith, e))),
        mark (4 * j + 2) (λ e. absurd (omega (arith, e))),
        get_or-set_same c.marks (4 * j + 3) p 0 (omega (arith, z.marks)),
      )

  sized_after : Sized after
  sized_after = record {
    times = z.times;
    levels = length-set c.levels (4 * j + 1) v ∙ z.levels;
    marks = length-set c.marks (4 * j + 3) p
        ∙ z.marks;
    numbers = z.numbers;
  }

  others : (i : ℕ) → (j < i) ⊎ (i + 256 ≤ j) → rows (event_at after) i 256 ≡ rows (event_at c) i 256
  others i (inl n) = rows_same (event_at c) (event_at after) i 256 (λ k l u. kept k (λ e. absurd (omega (arith, n, e))))
  others i (inr n) = rows_same (event_at c) (event_at after) i 256 (λ k l u. kept k (λ e. absurd (omega (arith, n, e))))

-- the engine with other lists of events
abbrev with_lists : Sequencer → (w s f : List Event) → Sequencer
with_lists s w a f = with_past (with_sounding (with_ready s w s.ready_len) a) f s.past_len

source_lists : (c : Cells) (l : List Float) (m : List ℕ) (w s f : List Event) → (let d = cells_of c.times l m c.numbers in
    rows (event_at d) 0 256 ≡ w → rows (event_at d) 256 256 ≡ s → rows (event_at d) 512 256 ≡ f → engine_of d ≡ with_lists (engine_of c) w s f)
unfolding engine_of
source_lists c l m w s f ew es ef = λ d. record {
  ready = ew d;
  ready_len = get_or c.numbers 1280 0;
  active = es d;
  active_len = get_or c.numbers 1281 0;
  active_map = (engine_of c).active_map;
  past = ef d;
  past_len = get_or c.numbers 1282 0;
  edit_map = (engine_of c).edit_map;
  time = (engine_of c).time;
  active_threshold = (engine_of c).active_threshold;
  sample_rate = (engine_of c).sample_rate;
  sample_duration = (engine_of c).sample_duration;
  outputs = (engine_of c).outputs;
  mode = (engine_of c).mode;
  next = (engine_of c).next;
  let_go = (engine_of c).let_go;
}

-- the source of the event at place a moves, of those that sound and of those that wait
module _ (c : Cells) (z : Sized c) (a : ℕ) (h : a < 256) (v : Float) (p : ℕ) where
  source_stored : engine_of (after c z (256 + a) (omega arith) v p)
      ≡ with_sounding (engine_of c) (set (engine_of c).active a (with_place p (with_value v (get_or (engine_of c).active a blank))))
  unfolding engine_of
  source_stored =
      let j = 256 + a in
      let l : j < 768 = omega arith in
      source_lists c (after c z j l v p).levels (after c z j l v p).marks _ _ _ (others c z j l v p 0 (inr (omega arith)))
      (rows-set (event_at c) (event_at (after c z j l v p)) 256 256 a _ h (moved c z j l v p
      ∙ ap (λ (e : Event). with_place p (with_value v e)) (sounds-at c a blank h)) (λ k x y n. kept c z j l v p k n))
      (others c z j l v p 512 (inl (omega arith)))

  waiting_stored : engine_of (after c z a (omega arith) v p)
      ≡ with_ready (engine_of c) (set (engine_of c).ready a (with_place p (with_value v (get_or (engine_of c).ready a blank)))) (engine_of c).ready_len
  unfolding engine_of
  waiting_stored =
      let l : a < 768 = omega arith in
      source_lists c (after c z a l v p).levels (after c z a l v p).marks _ _ _
      (rows-set (event_at c) (event_at (after c z a l v p)) 0 256 a _ h (ap (event_at (after c z a l v p)) (omega arith) ∙ moved c z a l v p
      ∙ ap (λ (e : Event). with_place p (with_value v e)) (waits-at c a blank h))
      (λ k x y n. kept c z a l v p k (λ q. n (omega (arith, q)))))
      (others c z a l v p 256 (inl h)) (others c z a l v p 512 (inl (omega arith)))

-- as `put_unit` leaves it
module _ (c : Cells) (z : Sized c) (k : ℕ) (u : Unit) (h : k < 768) where
  inside : unit_in c k u ≡ after c z k h u.value u.place
  inside = rw (lt-ltb k 768 h)

  pub unit_sized : Sized (unit_in c k u)
  unit_sized = subst Sized (sym inside) (sized_after c z k h u.value u.place)

module _ (c : Cells) (z : Sized c) (a : ℕ) (u : Unit) (h : a < 256) where
  pub unit-sounds : engine_of (unit_in c (256 + a) u) ≡ with_sounding (engine_of c)
      (set (engine_of c).active a (with_place u.place (with_value u.value (get_or (engine_of c).active a blank))))
  unit-sounds = ap engine_of (inside c z (256 + a) u (omega arith)) ∙ source_stored c z a h u.value u.place

  pub unit-waits : engine_of (unit_in c a u)
      ≡ with_ready (engine_of c) (set (engine_of c).ready a (with_place u.place (with_value u.value (get_or (engine_of c).ready a blank))))
      (engine_of c).ready_len
  unit-waits = ap engine_of (inside c z a u (omega arith)) ∙ waiting_stored c z a h u.value u.place
