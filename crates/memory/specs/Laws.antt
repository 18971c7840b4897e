-- What a slot that is written leaves: the other slots, and the rest of the engine.
use Rattle.std.specs.Prelude.{List, ◌≢◌, ◌⊎◌, ◌≡◌, refl, ℕ, ◌+◌, ◌*◌, ◌%◌, ◌≤◌, ◌<◌, eqb, leb, Float, set, length}
use Rattle.std.proofs.Common.{inl, inr, ◌∙◌, arith, lt-ltb, length-set, get_or-set_same, get_or-set_other}
use Rattle.std.proofs.Math.Path.{sym, ap}
use Rattle.std.specs.Float.{nan}
use Rattle.std.proofs.Math.ListN.{get_or}
use Rattle.event.specs.declared.Event.{Event}
use Rattle.event.specs.declared.EventId.{EventId}
use Rattle.event.specs.declared.Fade.{Fade}
use Rattle.event.specs.declared.Fade.TheVariants.{Power, Smooth}
use Rattle.event.specs.declared.Source.{Source}
use Rattle.event.specs.declared.Source.TheVariants.{Held, Ramp, Clip}
use Rattle.sequencer.specs.declared.Sequencer.{Sequencer}
use Rattle.sequencer.specs.Parts.{with_ready, with_active, with_past, with_next, with_let_go, with_sounding}
use Rattle.memory.specs.Rows.{rows, rows_get, rows_same, rows-set, set4, set4-0, set4-1, set4-2, set4-3, set4_other, length_set4}
use Rattle.memory.specs.Memory.{Cells, cells_of, ease_if, source_in, event_at, id_at, edit_at, mode_if}
use Rattle.memory.specs.Memory.{engine_of, source_marks, stored, copied, slot_of, stored_in, copied_in}

pub record Sized (c : Cells) : Type 0 where
  pub times : length c.times ≡ 3588
  pub levels : length c.levels ≡ 3072
  pub marks : length c.marks ≡ 3072
  pub numbers : length c.numbers ≡ 1288

-- ---- what is put into a slot reads back

ease_back : (f : Fade) (s : Source) → ease_if (leb 4 (source_marks f s).mark) ≡ f
ease_back Power (Held x) = refl
ease_back Power (Ramp x y) = refl
ease_back Power (Clip o n) = refl
ease_back Smooth (Held x) = refl
ease_back Smooth (Ramp x y) = refl
ease_back Smooth (Clip o n) = refl

source_back : (f : Fade) (s : Source) → (let m = source_marks f s in source_in (m.mark % 4) m.a m.b m.offset m.length) ≡ s
source_back Power (Held x) = refl
source_back Power (Ramp x y) = refl
source_back Power (Clip o n) = refl
source_back Smooth (Held x) = refl
source_back Smooth (Ramp x y) = refl
source_back Smooth (Clip o n) = refl

-- ---- any numbers in the slot k

abbrev pub slotted : Cells → (k : ℕ) → (t0 t1 t2 t3 l0 l1 l2 l3 : Float) → (m0 m1 m2 m3 n0 : ℕ) → Cells
slotted c k t0 t1 t2 t3 l0 l1 l2 l3 m0 m1 m2 m3 n0 =
    cells_of (set4 c.times (4 * k) t0 t1 t2 t3) (set4 c.levels (4 * k) l0 l1 l2 l3) (set4 c.marks (4 * k) m0 m1 m2 m3) (set c.numbers k n0)

module _ (c : Cells) (k : ℕ) (t0 t1 t2 t3 l0 l1 l2 l3 : Float) (m0 m1 m2 m3 n0 : ℕ) where
  abbrev after : Cells
  after = slotted c k t0 t1 t2 t3 l0 l1 l2 l3 m0 m1 m2 m3 n0

  time_kept : (j : ℕ) → ((i : ℕ) → i < 4 → j ≢ 4 * k + i) → get_or after.times j nan ≡ get_or c.times j nan
  time_kept j h = set4_other c.times (4 * k) t0 t1 t2 t3 j nan (λ q. h 0 (omega arith) (omega (arith, q))) (h 1 (omega arith)) (h 2 (omega arith))
      (h 3 (omega arith))

  level-kept : (j : ℕ) → ((i : ℕ) → i < 4 → j ≢ 4 * k + i) → get_or after.levels j nan ≡ get_or c.levels j nan
  level-kept j h = set4_other c.levels (4 * k) l0 l1 l2 l3 j nan (λ q. h 0 (omega arith) (omega (arith, q))) (h 1 (omega arith)) (h 2 (omega arith))
      (h 3 (omega arith))

  mark_kept : (j : ℕ) → ((i : ℕ) → i < 4 → j ≢ 4 * k + i) → get_or after.marks j 0 ≡ get_or c.marks j 0
  mark_kept j h = set4_other c.marks (4 * k) m0 m1 m2 m3 j 0 (λ q. h 0 (omega arith) (omega (arith, q))) (h 1 (omega arith)) (h 2 (omega arith))
      (h 3 (omega arith))

  number_kept : (j : ℕ) → j ≢ k → get_or after.numbers j 0 ≡ get_or c.numbers j 0
  number_kept j h = get_or-set_other c.numbers k j n0 0 h

  -- another slot is as it was
  pub slot_kept : (j : ℕ) → j ≢ k → event_at after j ≡ event_at c j
  slot_kept j h =
      rw (
        time_kept (4 * j) (λ i p q. h (omega (arith, p, q))),
        time_kept (4 * j + 1) (λ i p q. h (omega (arith, p, q))),
        time_kept (4 * j + 2) (λ i p q. h (omega (arith, p, q))),
        time_kept (4 * j + 3) (λ i p q. h (omega (arith, p, q))),
        level-kept (4 * j) (λ i p q. h (omega (arith, p, q))),
        level-kept (4 * j + 1) (λ i p q. h (omega (arith, p, q))),
        level-kept (4 * j + 2) (λ i p q. h (omega (arith, p, q))),
        level-kept (4 * j + 3) (λ i p q. h (omega (arith, p, q))),
        mark_kept (4 * j) (λ i p q. h (omega (arith, p, q))),
        mark_kept (4 * j + 1) (λ i p q. h (omega (arith, p, q))),
        mark_kept (4 * j + 2) (λ i p q. h (omega (arith, p, q))),
        mark_kept (4 * j + 3) (λ i p q. h (omega (arith, p, q))),
        number_kept j h,
      )

  -- the slot itself
  pub slot_read : Sized c → k < 768
      → event_at after k ≡ record {
        start_time = t0;
        end_time = t1;
        fade_in = t2;
        fade_out = t3;
        fade_ease = ease_if (leb 4 m0);
        unit = record { source = source_in (m0 % 4) l2 l3 m1 m2; value = l1; place = m3 };
        gain = l0;
        id = record { 0 = n0 };
      }
  slot_read z h =
      rw (
        set4-0 c.times (4 * k) t0 t1 t2 t3 nan (omega (arith, z.times)),
        set4-1 c.times (4 * k) t0 t1 t2 t3 nan (omega (arith, z.times)),
        set4-2 c.times (4 * k) t0 t1 t2 t3 nan (omega (arith, z.times)),
        set4-3 c.times (4 * k) t0 t1 t2 t3 nan (omega (arith, z.times)),
        set4-0 c.levels (4 * k) l0 l1 l2 l3 nan (omega (arith, z.levels)),
        set4-1 c.levels (4 * k) l0 l1 l2 l3 nan (omega (arith, z.levels)),
        set4-2 c.levels (4 * k) l0 l1 l2 l3 nan (omega (arith, z.levels)),
        set4-3 c.levels (4 * k) l0 l1 l2 l3 nan (omega (arith, z.levels)),
        set4-0 c.marks (4 * k) m0 m1 m2 m3 0 (omega (arith, z.marks)),
        set4-1 c.marks (4 * k) m0 m1 m2 m3 0 (omega (arith, z.marks)),
        set4-2 c.marks (4 * k) m0 m1 m2 m3 0 (omega (arith, z.marks)),
        set4-3 c.marks (4 * k) m0 m1 m2 m3 0 (omega (arith, z.marks)),
        get_or-set_same c.numbers k n0 0 (omega (arith, z.numbers)),
      )

  -- ---- the rest of the engine

  other-rows : (i : ℕ) → (k < i) ⊎ (i + 256 ≤ k) → rows (event_at after) i 256 ≡ rows (event_at c) i 256
  other-rows i (inl h) = rows_same (event_at c) (event_at after) i 256 (λ j p q. slot_kept j (λ e. absurd (omega (arith, h, e))))
  other-rows i (inr h) = rows_same (event_at c) (event_at after) i 256 (λ j p q. slot_kept j (λ e. absurd (omega (arith, h, e))))

  same_index : k < 768 → rows (id_at after) 768 256 ≡ rows (id_at c) 768 256
  same_index h = rows_same (id_at c) (id_at after) 768 256 (λ j p q. ap (λ (x : ℕ). record { 0 = x }) (number_kept j (λ e. absurd (omega (arith, e)))))

  same-edits : k < 768 → rows (edit_at after) 1024 256 ≡ rows (edit_at c) 1024 256
  same-edits h = rows_same (edit_at c) (edit_at after) 1024 256 (λ j p q.
      rw (
        number_kept j (λ e. absurd (omega (arith, e))),
        time_kept (1028 + 2 * j) (λ i l e. absurd (omega (arith, l, e))),
        time_kept (1029 + 2 * j)
            (λ i l e. absurd (omega (arith, l, e))),
      ))

  this_row : (i a : ℕ) → k ≡ i + a → a < 256 → rows (event_at after) i 256 ≡ set (rows (event_at c) i 256) a (event_at after k)
  this_row i a e h = rows-set (event_at c) (event_at after) i 256 a (event_at after k) h (ap (event_at after) (sym e)) (λ j p q w. slot_kept j (λ x. w (x ∙ e)))

  -- the engine with other lists of events
  abbrev with_lists : Sequencer → (w s f : List Event) → Sequencer
  with_lists s w a f = with_past (with_active (with_ready s w s.ready_len) a s.active_map s.active_len) f s.past_len

  n_kept : k < 768 → (j : ℕ) → 768 ≤ j → get_or after.numbers j 0 ≡ get_or c.numbers j 0
  n_kept h j p = number_kept j (λ e. absurd (omega (arith, h, p, e)))

  t_kept : k < 768 → (j : ℕ) → 3072 ≤ j → get_or after.times j nan ≡ get_or c.times j nan
  t_kept h j p = time_kept j (λ i l e. absurd (omega (arith, h, p, l, e)))

  engine-lists : (w s f : List Event) → k < 768 → rows (event_at after) 0 256 ≡ w → rows (event_at after) 256 256 ≡ s → rows (event_at after) 512 256 ≡ f
      → engine_of after ≡ with_lists (engine_of c) w s f
  unfolding engine_of
  engine-lists w s f h ew es ef =
      λ d. record {
        ready = ew d;
        ready_len = n_kept h 1280 (omega arith) d;
        active = es d;
        active_len = n_kept h 1281 (omega arith) d;
        active_map = same_index h d;
        past = ef d;
        past_len = n_kept h 1282 (omega arith) d;
        edit_map = record { items = same-edits h d; len = n_kept h 1283 (omega arith) d };
        time = t_kept h 3072 (omega arith) d;
        active_threshold = t_kept h 3073 (omega arith) d;
        sample_rate = t_kept h 3074 (omega arith) d;
        sample_duration = t_kept h 3075 (omega arith) d;
        outputs = n_kept h 1284 (omega arith) d;
        mode = mode_if (eqb (n_kept h 1285 (omega arith) d) 0);
        next = n_kept h 1286 (omega arith) d;
        let_go = n_kept h 1287 (omega arith) d;
      }

  pub sized_slot : Sized c → Sized after
  sized_slot z = record {
    times = length_set4 c.times (4 * k) t0 t1 t2 t3 ∙ z.times;
    levels = length_set4 c.levels (4 * k) l0 l1 l2 l3 ∙ z.levels;
    marks = length_set4 c.marks (4 * k) m0 m1 m2 m3 ∙ z.marks;
    numbers = length-set c.numbers k n0 ∙ z.numbers;
  }

  -- a slot of those that wait, sound, or are finished
  pub engine-waits : k < 256 → engine_of after ≡ with_ready (engine_of c) (set (engine_of c).ready k (event_at after k)) (engine_of c).ready_len
  unfolding engine_of
  engine-waits h = engine-lists _ _ _ (omega arith) (this_row 0 k (omega arith) h) (other-rows 256 (inl h)) (other-rows 512 (inl (omega arith)))

  pub engine-sounds : (a : ℕ) → k ≡ 256 + a → a < 256 → engine_of after ≡ with_sounding (engine_of c) (set (engine_of c).active a (event_at after k))
  unfolding engine_of
  engine-sounds a e h = engine-lists _ _ _ (omega (arith, e)) (other-rows 0 (inr (omega (arith, e)))) (this_row 256 a e h)
      (other-rows 512 (inl (omega (arith, e))))

  pub engine_finished : (a : ℕ) → k ≡ 512 + a → a < 256 → engine_of after
      ≡ with_past (engine_of c) (set (engine_of c).past a (event_at after k)) (engine_of c).past_len
  unfolding engine_of
  engine_finished a e h = engine-lists _ _ _ (omega (arith, e)) (other-rows 0 (inr (omega (arith, e)))) (other-rows 256 (inr (omega (arith, e))))
      (this_row 512 a e h)

-- ---- an event put, and one copied

pub stored-reads : (c : Cells) (k : ℕ) (e : Event) → Sized c → k < 768 → event_at (stored c k e) k ≡ e
stored-reads c k e z h =
    slot_read c k _ _ _ _ _ _ _ _ _ _ _ _ _ z h ∙ (λ d. record {
      start_time = e.start_time;
      end_time = e.end_time;
      fade_in = e.fade_in;
      fade_out = e.fade_out;
      fade_ease = ease_back e.fade_ease e.unit.source d;
      unit = record { source = source_back e.fade_ease e.unit.source d; value = e.unit.value; place = e.unit.place };
      gain = e.gain;
      id = e.id;
    })

pub copied-reads : (c : Cells) (k j : ℕ) → Sized c → k < 768 → event_at (copied c k j) k ≡ event_at c j
copied-reads c k j z h = slot_read c k _ _ _ _ _ _ _ _ _ _ _ _ _ z h

pub slot_inside : (k : ℕ) → k < 768 → slot_of k ≡ k
slot_inside k h = rw (lt-ltb k 768 h)

pub stored-inside : (c : Cells) (k : ℕ) (e : Event) → k < 768 → stored_in c k e ≡ stored c k e
stored-inside c k e h = rw (lt-ltb k 768 h)

pub copied-inside : (c : Cells) (k j : ℕ) → k < 768 → j < 768 → copied_in c k j ≡ copied c k j
copied-inside c k j h l = rw (lt-ltb k 768 h, lt-ltb j 768 l)

-- the event at a place of those that wait, sound, or are finished
module _ (c : Cells) (a : ℕ) (d : Event) (h : a < 256) where
  pub waits-at : event_at c a ≡ get_or (engine_of c).ready a d
  unfolding engine_of
  waits-at = sym (rows_get (event_at c) 0 256 a d h ∙ ap (event_at c) (omega arith))

  pub sounds-at : event_at c (256 + a) ≡ get_or (engine_of c).active a d
  unfolding engine_of
  sounds-at = sym (rows_get (event_at c) 256 256 a d h)

  pub finished_at : event_at c (512 + a) ≡ get_or (engine_of c).past a d
  unfolding engine_of
  finished_at = sym (rows_get (event_at c) 512 256 a d h)

  -- as `event_at` reads it
  pub waits-read : event_at c (slot_of a) ≡ get_or (engine_of c).ready a d
  waits-read = ap (event_at c) (slot_inside a (omega arith)) ∙ waits-at

  pub sounds-read : event_at c (slot_of (256 + a)) ≡ get_or (engine_of c).active a d
  sounds-read = ap (event_at c) (slot_inside (256 + a) (omega arith)) ∙ sounds-at

  pub finished_read : event_at c (slot_of (512 + a)) ≡ get_or (engine_of c).past a d
  finished_read = ap (event_at c) (slot_inside (512 + a) (omega arith)) ∙ finished_at

-- ---- one number, of those behind the slots' own

abbrev pub with_number : Cells → (p x : ℕ) → Cells
with_number c p x = cells_of c.times c.levels c.marks (set c.numbers p x)

module _ (c : Cells) (p x : ℕ) where
  pub number_sized : Sized c → Sized (with_number c p x)
  number_sized z = record { times = z.times; levels = z.levels; marks = z.marks; numbers = length-set c.numbers p x ∙ z.numbers }

  at : (q : ℕ) → q ≢ p → get_or (set c.numbers p x) q 0 ≡ get_or c.numbers q 0
  at q h = get_or-set_other c.numbers p q x 0 h

  slots : (i : ℕ) → i + 256 ≤ p → rows (event_at (with_number c p x)) i 256 ≡ rows (event_at c) i 256
  slots i h = rows_same (event_at c) (event_at (with_number c p x)) i 256 (λ j l u. rw (at j (λ e. absurd (omega (arith, h, l, u, e)))))

  index : 1024 ≤ p → rows (id_at (with_number c p x)) 768 256 ≡ rows (id_at c) 768 256
  index h = rows_same (id_at c) (id_at (with_number c p x)) 768 256 (λ j l u. rw (at j (λ e. absurd (omega (arith, h, l, u, e)))))

  edits : (p < 1024) ⊎ (1280 ≤ p) → rows (edit_at (with_number c p x)) 1024 256 ≡ rows (edit_at c) 1024 256
  edits (inl h) = rows_same (edit_at c) (edit_at (with_number c p x)) 1024 256 (λ j l u. rw (at j (λ e. absurd (omega (arith, h, l, u, e)))))
  edits (inr h) = rows_same (edit_at c) (edit_at (with_number c p x)) 1024 256 (λ j l u. rw (at j (λ e. absurd (omega (arith, h, l, u, e)))))

  -- the engine with the numbers that are read
  abbrev Numbered : (rl al pl el o m n g : ℕ) → (ids : List EventId) → Sequencer
  unfolding engine_of
  Numbered rl al pl el o m n g ids = record {
    ready = rows (event_at c) 0 256;
    ready_len = rl;
    active = rows (event_at c) 256 256;
    active_len = al;
    active_map = ids;
    past = rows (event_at c) 512 256;
    past_len = pl;
    edit_map = record { items = rows (edit_at c) 1024 256; len = el };
    time = get_or c.times 3072 nan;
    active_threshold = get_or c.times 3073 nan;
    sample_rate = get_or c.times 3074 nan;
    sample_duration = get_or c.times 3075 nan;
    outputs = o;
    mode = mode_if (eqb m 0);
    next = n;
    let_go = g;
  }

  numbered : (rl al pl el o m n g : ℕ) (ids : List EventId) → 768 ≤ p → ((p < 1024) ⊎ (1280 ≤ p))
      → get_or (set c.numbers p x) 1280 0 ≡ rl → get_or (set c.numbers p x) 1281 0 ≡ al → get_or (set c.numbers p x) 1282 0 ≡ pl
      → get_or (set c.numbers p x) 1283 0 ≡ el
      → get_or (set c.numbers p x) 1284 0 ≡ o → get_or (set c.numbers p x) 1285 0 ≡ m → get_or (set c.numbers p x) 1286 0 ≡ n
      → get_or (set c.numbers p x) 1287 0 ≡ g
      → rows (id_at (with_number c p x)) 768 256 ≡ ids → engine_of (with_number c p x) ≡ Numbered rl al pl el o m n g ids
  unfolding engine_of
  numbered rl al pl el o m n g ids h s e0 e1 e2 e3 e4 e5 e6 e7 ei = λ d. record {
    ready = slots 0 (omega arith) d;
    ready_len = e0 d;
    active = slots 256 (omega arith) d;
    active_len = e1 d;
    active_map = ei d;
    past = slots 512 (omega arith) d;
    past_len = e2 d;
    edit_map = record { items = edits s d; len = e3 d };
    time = get_or c.times 3072 nan;
    active_threshold = get_or c.times 3073 nan;
    sample_rate = get_or c.times 3074 nan;
    sample_duration = get_or c.times 3075 nan;
    outputs = e4 d;
    mode = mode_if (eqb (e5 d) 0);
    next = e6 d;
    let_go = e7 d;
  }

far : {p q : ℕ} → (p < q) ⊎ (q < p) → p ≢ q
far (inl h) e = absurd (omega (arith, h, e))
far (inr h) e = absurd (omega (arith, h, e))

module _ (c : Cells) (x : ℕ) (z : Sized c) where
  pub waiting_is : engine_of (with_number c 1280 x) ≡ with_ready (engine_of c) (engine_of c).ready x
  unfolding engine_of
  waiting_is = numbered c 1280 x _ _ _ _ _ _ _ _ _ (omega arith) (inr (omega arith)) (get_or-set_same c.numbers 1280 x 0 (omega (arith, z.numbers)))
      (at c 1280 x 1281 (far (inr (omega arith))))
      (at c 1280 x 1282 (far (inr (omega arith)))) (at c 1280 x 1283 (far (inr (omega arith)))) (at c 1280 x 1284 (far (inr (omega arith))))
      (at c 1280 x 1285 (far (inr (omega arith))))
      (at c 1280 x 1286 (far (inr (omega arith)))) (at c 1280 x 1287 (far (inr (omega arith)))) (index c 1280 x (omega arith))

  pub next-is : engine_of (with_number c 1286 x) ≡ with_next (engine_of c) x
  unfolding engine_of
  next-is = numbered c 1286 x _ _ _ _ _ _ _ _ _ (omega arith) (inr (omega arith)) (at c 1286 x 1280 (far (inl (omega arith))))
      (at c 1286 x 1281 (far (inl (omega arith))))
      (at c 1286 x 1282 (far (inl (omega arith)))) (at c 1286 x 1283 (far (inl (omega arith)))) (at c 1286 x 1284 (far (inl (omega arith))))
      (at c 1286 x 1285 (far (inl (omega arith))))
      (get_or-set_same c.numbers 1286 x 0 (omega (arith, z.numbers))) (at c 1286 x 1287 (far (inr (omega arith)))) (index c 1286 x (omega arith))

  pub sounding_is : engine_of (with_number c 1281 x) ≡ with_active (engine_of c) (engine_of c).active (engine_of c).active_map x
  unfolding engine_of
  sounding_is = numbered c 1281 x _ _ _ _ _ _ _ _ _ (omega arith) (inr (omega arith)) (at c 1281 x 1280 (far (inl (omega arith))))
      (get_or-set_same c.numbers 1281 x 0 (omega (arith, z.numbers)))
      (at c 1281 x 1282 (far (inr (omega arith)))) (at c 1281 x 1283 (far (inr (omega arith)))) (at c 1281 x 1284 (far (inr (omega arith))))
      (at c 1281 x 1285 (far (inr (omega arith))))
      (at c 1281 x 1286 (far (inr (omega arith)))) (at c 1281 x 1287 (far (inr (omega arith)))) (index c 1281 x (omega arith))

  -- the number at place a of the index
  pub index_is : (a : ℕ) → a < 256 → engine_of (with_number c (768 + a) x)
      ≡ with_active (engine_of c) (engine_of c).active (set (engine_of c).active_map a (record { 0 = x })) (engine_of c).active_len
  unfolding engine_of
  index_is a h =
      let e : (q : ℕ) → 1280 ≤ q → get_or (set c.numbers (768 + a) x) q 0
      ≡ get_or c.numbers q 0 = λ q l. at c (768 + a) x q (far (inr (omega (arith, h, l)))) in
      numbered c (768 + a) x _ _ _ _ _ _ _ _ _ (omega arith) (inl (omega (arith, h))) (e 1280 (omega arith)) (e 1281 (omega arith)) (e 1282 (omega arith))
      (e 1283 (omega arith)) (e 1284 (omega arith))
      (e 1285 (omega arith)) (e 1286 (omega arith)) (e 1287 (omega arith))
      (rows-set (id_at c) (id_at (with_number c (768 + a) x)) 768 256 a (record { 0 = x }) h
      (ap (λ (y : ℕ). record { 0 = y }) (get_or-set_same c.numbers (768 + a) x 0 (omega (arith, h, z.numbers))))
      (λ j l u w. ap (λ (y : ℕ). record { 0 = y }) (at c (768 + a) x j w)))

  pub finished_is : engine_of (with_number c 1282 x) ≡ with_past (engine_of c) (engine_of c).past x
  unfolding engine_of
  finished_is = numbered c 1282 x _ _ _ _ _ _ _ _ _ (omega arith) (inr (omega arith)) (at c 1282 x 1280 (far (inl (omega arith))))
      (at c 1282 x 1281 (far (inl (omega arith))))
      (get_or-set_same c.numbers 1282 x 0 (omega (arith, z.numbers))) (at c 1282 x 1283 (far (inr (omega arith))))
      (at c 1282 x 1284 (far (inr (omega arith)))) (at c 1282 x 1285 (far (inr (omega arith))))
      (at c 1282 x 1286 (far (inr (omega arith)))) (at c 1282 x 1287 (far (inr (omega arith)))) (index c 1282 x (omega arith))

  pub let_go_is : engine_of (with_number c 1287 x) ≡ with_let_go (engine_of c) x
  unfolding engine_of
  let_go_is = numbered c 1287 x _ _ _ _ _ _ _ _ _ (omega arith) (inr (omega arith)) (at c 1287 x 1280 (far (inl (omega arith))))
      (at c 1287 x 1281 (far (inl (omega arith))))
      (at c 1287 x 1282 (far (inl (omega arith)))) (at c 1287 x 1283 (far (inl (omega arith)))) (at c 1287 x 1284 (far (inl (omega arith))))
      (at c 1287 x 1285 (far (inl (omega arith))))
      (at c 1287 x 1286 (far (inl (omega arith)))) (get_or-set_same c.numbers 1287 x 0 (omega (arith, z.numbers))) (index c 1287 x (omega arith))

-- ---- what the engine reads: counts, and the index
pub counts_are : (c : Cells) → (get_or c.numbers 1280 0 ≡ (engine_of c).ready_len) × (get_or c.numbers 1281 0 ≡ (engine_of c).active_len)
    × (get_or c.numbers 1282 0 ≡ (engine_of c).past_len)
unfolding engine_of
counts_are c = (refl, refl, refl)

pub index_at : (c : Cells) (a : ℕ) (d : EventId) → a < 256 → record { 0 = get_or c.numbers (768 + a) 0 } ≡ get_or (engine_of c).active_map a d
unfolding engine_of
index_at c a d h = sym (rows_get (id_at c) 768 256 a d h)
