-- The engine in four arrays of numbers: which engine they hold. Every array of numbers holds one.
use Rattle.std.specs.Prelude.{Bool, true, false, ◌&&◌, cond, List, ℕ, ◌+◌, ◌*◌, ◌%◌, eqb, leb, ltb, Float, get_or, set}
use Rattle.std.specs.Borrow.{Bor}
use denote.Triple.Both.{Both}
use Rattle.std.specs.Float.{nan}
use Rattle.event.specs.declared.Event.{Event}
use Rattle.event.specs.declared.EventId.{EventId}
use Rattle.event.specs.declared.Unit.{Unit}
use Rattle.event.specs.declared.StoredEdit.{StoredEdit}
use Rattle.event.specs.declared.Fade.{Fade}
use Rattle.event.specs.declared.Fade.TheVariants.{Power, Smooth}
use Rattle.event.specs.declared.Source.{Source}
use Rattle.event.specs.declared.Source.TheVariants.{Held, Ramp, Clip}
use Rattle.event.specs.declared.ReplayMode.{ReplayMode}
use Rattle.event.specs.declared.ReplayMode.TheVariants.{All, None}
use Rattle.floats.specs.Arithmetic.{zeroᶠ}
use Rattle.sequencer.specs.declared.Sequencer.{Sequencer}
use Rattle.memory.specs.declared.slots.SourceMarks.{SourceMarks}
use Rattle.memory.specs.Rows.{rows, set4}

pub record Cells : Type 0 where
  pub times : List Float
  pub levels : List Float
  pub marks : List ℕ
  pub numbers : List ℕ

abbrev pub cells_of : List Float → List Float → List ℕ → List ℕ → Cells
cells_of t l m n = record { times = t; levels = l; marks = m; numbers = n }

-- an array that is lent to be read, at a call's entry and at its exit
abbrev pub Lent : Type 0 → Type 0
Lent A = Both (Bor (List A)) (Bor (List A))

-- four lent arrays, at a call's entry (`x.old` of a `&mut`) and at its exit (`x.new`); of an array that is only read, `x.now`
abbrev pub before : (times levels : List Float) → (marks numbers : List ℕ) → Cells
before t l m n = cells_of t l m n

abbrev pub after : (times levels : List Float) → (marks numbers : List ℕ) → Cells
after t l m n = cells_of t l m n

-- ---- a slot

abbrev pub ease_if : Bool → Fade
ease_if true = Smooth
ease_if false = Power

-- the source of a kind, of which 0 is held, 1 a ramp, and every other a clip
abbrev pub source_in : (kind : ℕ) → (a b : Float) → (offset length : ℕ) → Source
source_in kind a b offset length = cond (eqb kind 0) (Held a) (cond (eqb kind 1) (Ramp a b) (Clip offset length))

abbrev pub event_at : Cells → (slot : ℕ) → Event
event_at c k = record {
  start_time = get_or c.times (4 * k) nan;
  end_time = get_or c.times (4 * k + 1) nan;
  fade_in = get_or c.times (4 * k + 2) nan;
  fade_out = get_or c.times (4 * k + 3) nan;
  fade_ease = ease_if (leb 4 (get_or c.marks (4 * k) 0));
  unit = record {
    source = source_in (get_or c.marks (4 * k) 0 % 4) (get_or c.levels (4 * k + 2) nan) (get_or c.levels (4 * k + 3) nan)
        (get_or c.marks (4 * k + 1) 0) (get_or c.marks (4 * k + 2) 0);
    value = get_or c.levels (4 * k + 1) nan;
    place = get_or c.marks (4 * k + 3) 0;
  };
  gain = get_or c.levels (4 * k) nan;
  id = record { 0 = get_or c.numbers k 0 };
}

abbrev pub id_at : Cells → ℕ → EventId
id_at c k = record { 0 = get_or c.numbers k 0 }

-- the stored edit whose number stands at place k of the numbers, from 1024 on
abbrev pub edit_at : Cells → ℕ → StoredEdit
edit_at c k = record {
  id = id_at c k;
  edit = record { end_time = get_or c.times (1028 + 2 * k) nan; fade_out = get_or c.times (1029 + 2 * k) nan };
}

-- ---- the engine

abbrev pub mode_if : Bool → ReplayMode
mode_if true = All
mode_if false = None

unfoldable pub engine_of : Cells → Sequencer
unfolding rows
engine_of c = record {
  ready = rows (event_at c) 0 256;
  ready_len = get_or c.numbers 1280 0;
  active = rows (event_at c) 256 256;
  active_len = get_or c.numbers 1281 0;
  active_map = rows (id_at c) 768 256;
  past = rows (event_at c) 512 256;
  past_len = get_or c.numbers 1282 0;
  edit_map = record { items = rows (edit_at c) 1024 256; len = get_or c.numbers 1283 0 };
  time = get_or c.times 3072 nan;
  active_threshold = get_or c.times 3073 nan;
  sample_rate = get_or c.times 3074 nan;
  sample_duration = get_or c.times 3075 nan;
  outputs = get_or c.numbers 1284 0;
  mode = mode_if (eqb (get_or c.numbers 1285 0) 0);
  next = get_or c.numbers 1286 0;
  let_go = get_or c.numbers 1287 0;
}

-- ---- an event put into a slot

abbrev pub ease_mark : Fade → ℕ
ease_mark Power = 0
ease_mark Smooth = 4

abbrev pub source_marks : Fade → Source → SourceMarks
source_marks f (Held x) = record { mark = ease_mark f; a = x; b = zeroᶠ; offset = 0; length = 0 }
source_marks f (Ramp x y) = record { mark = ease_mark f + 1; a = x; b = y; offset = 0; length = 0 }
source_marks f (Clip o n) = record { mark = ease_mark f + 2; a = zeroᶠ; b = zeroᶠ; offset = o; length = n }

abbrev pub stored : Cells → (slot : ℕ) → Event → Cells
stored c k e =
    let s = source_marks e.fade_ease e.unit.source in
    cells_of (set4 c.times (4 * k) e.start_time e.end_time e.fade_in e.fade_out)
    (set4 c.levels (4 * k) e.gain e.unit.value s.a s.b)
    (set4 c.marks (4 * k) s.mark s.offset s.length e.unit.place)
    (set c.numbers k e.id.0)

-- the slot k is as the slot j
abbrev pub copied : Cells → (k j : ℕ) → Cells
copied c k j =
    let t = c.times in
    let l = c.levels in
    let m = c.marks in
    cells_of (set4 t (4 * k) (get_or t (4 * j) nan) (get_or t (4 * j + 1) nan) (get_or t (4 * j + 2) nan) (get_or t (4 * j + 3) nan))
    (set4 l (4 * k) (get_or l (4 * j) nan) (get_or l (4 * j + 1) nan) (get_or l (4 * j + 2) nan) (get_or l (4 * j + 3) nan))
    (set4 m (4 * k) (get_or m (4 * j) 0) (get_or m (4 * j + 1) 0) (get_or m (4 * j + 2) 0) (get_or m (4 * j + 3) 0))
    (set c.numbers k (get_or c.numbers j 0))

-- ---- a number that is no slot's: it is read as slot 0, and nothing is stored there

abbrev pub slot_of : ℕ → ℕ
slot_of k = cond (ltb k 768) k 0

abbrev pub stored_in : Cells → (slot : ℕ) → Event → Cells
stored_in c k e = cond (ltb k 768) (stored c k e) c

-- value and place of the slot's source
abbrev pub unit_in : Cells → (slot : ℕ) → Unit → Cells
unit_in c k u = cond (ltb k 768) (cells_of c.times (set c.levels (4 * k + 1) u.value) (set c.marks (4 * k + 3) u.place) c.numbers) c

abbrev pub copied_in : Cells → (k j : ℕ) → Cells
copied_in c k j = cond (ltb k 768 && ltb j 768) (copied c k j) c
