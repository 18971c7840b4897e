-- How events move between the engine's lists, on every engine: what the functions of src/moves.rt make of it. The ledger knows nothing of these; `claim` joins them.
use Rattle.std.specs.Prelude.{ℕ, zero, suc, ◌+◌, ◌-◌, ◌%◌, ◌^◌, min, cond, ◌&&◌, get_or, nat_le, nat_lt, slice_index_or, slice_set, Float}
use Rattle.std.specs.Float.Ieee.{lt, le}
use Rattle.event.specs.declared.Edit.{Edit}
use Rattle.event.specs.declared.Event.{Event}
use Rattle.event.specs.declared.ReplayMode.{ReplayMode}
use Rattle.event.specs.declared.ReplayMode.TheVariants.{All, None}
use Rattle.event.specs.Events.{edited_by}
use Rattle.event.specs.Blank.{blank}
use Rattle.ready.specs.declared.Ready.{Ready}
use Rattle.ready.specs.Waiting.{pushed, popped}
use Rattle.std.specs.declared.option.Option.{Option as Found}
use Rattle.std.specs.declared.option.Option.TheVariants.{Some, None as Missing}
use Rattle.lists.specs.Index.{no_id}
use Rattle.lists.specs.Edits.{found_edit, removed}
use Rattle.floats.specs.Arithmetic.{◌+ᵈ◌, ◌-ᵈ◌, ◌×ᵈ◌, halfᶠ}
use Rattle.sequencer.specs.declared.Sequencer.{Sequencer}
use Rattle.sequencer.specs.Parts.{with_ready, with_active, with_past, with_edits, with_times, with_let_go}

-- ---- one event

abbrev pub heap_of : Sequencer → Ready
heap_of s = record { items = s.ready; len = s.ready_len }

abbrev pub with_heap : Sequencer → Ready → Sequencer
with_heap s h = with_ready s h.items h.len

unfoldable pub pushed_ready : Sequencer → Event → Sequencer
pushed_ready s e = with_heap s (pushed (heap_of s) e)

unfoldable pub popped_ready : Sequencer → Sequencer
popped_ready s = with_heap s (popped (heap_of s))

unfoldable pub pushed_active : Sequencer → Event → Sequencer
pushed_active s e =
    let n = s.active_len in
    cond (nat_lt n 256) (with_active s (slice_set s.active n e) (slice_set s.active_map n e.id) (n + 1)) s

-- the last fills place i
unfoldable pub swap_removed : Sequencer → (i : ℕ) → Sequencer
swap_removed s i =
    let n = s.active_len in
    cond (nat_le n 256 && nat_lt i n)
    (with_active s (slice_set s.active i (slice_index_or s.active (n - 1) blank)) (slice_set s.active_map i (slice_index_or s.active_map (n - 1) no_id)) (n - 1)) s

unfoldable pub pushed_past : Sequencer → Event → Sequencer
pushed_past s e =
    let n = s.past_len in
    cond (nat_lt n 256) (with_past s (slice_set s.past n e) (n + 1)) s

-- ---- the heap's first becomes active, with its edit

unfoldable pub activated_by : Sequencer → Event → Found Edit → Sequencer
unfolding popped_ready pushed_active
activated_by s e (Some d) = pushed_active (popped_ready (with_edits s (removed s.edit_map e.id))) (edited_by d e)
activated_by s e Missing = pushed_active (popped_ready s) e

unfoldable pub activated : Sequencer → Event → Sequencer
unfolding activated_by
activated s e = activated_by s e (found_edit s.edit_map e.id)

-- ---- a push

unfoldable pub pushed_event : Sequencer → Event → Sequencer
unfolding pushed_ready pushed_active
pushed_event s e = cond (lt e.start_time s.active_threshold) (pushed_active s e) (pushed_ready s e)

abbrev pub shifted : (t : Float) → Event → Event
shifted t e = record {
  start_time = e.start_time +ᵈ t;
  end_time = e.end_time +ᵈ t;
  fade_in = e.fade_in;
  fade_out = e.fade_out;
  fade_ease = e.fade_ease;
  unit = e.unit;
  gain = e.gain;
  id = e.id;
}

unfoldable pub pushed_relative : Sequencer → Event → Sequencer
unfolding pushed_event
pushed_relative s e = pushed_event s (shifted s.time e)

-- ---- the beginning of a tick or a block

-- at most f times
unfoldable pub activates : (f : ℕ) → Sequencer → Sequencer
unfolding activated
activates zero s = s
activates (suc f) s =
    let e = get_or s.ready 0 blank in
    let r = activates f (activated s e) in
    cond (nat_lt 0 s.ready_len && nat_le s.ready_len 256 && lt e.start_time s.active_threshold) r s

unfoldable pub ready_to_active : Sequencer → Sequencer
unfolding activates
ready_to_active s = activates s.ready_len s

-- ---- events that end by `limit` are past, from place i on, in at most f rounds

unfoldable pub finishes : (f : ℕ) → (limit : Float) → Sequencer → (i : ℕ) → Sequencer
unfolding swap_removed pushed_past
finishes zero limit s i = s
finishes (suc f) limit s i =
    let e = get_or s.active i blank in
    let on = finishes f limit s (suc i) in
    let off = finishes f limit (pushed_past (swap_removed s i) e) i in
    cond (nat_lt i s.active_len && nat_le s.active_len 256) (cond (le e.end_time limit) off on) s

unfoldable pub active_to_past : Sequencer → (limit : Float) → Sequencer
unfolding finishes
active_to_past s limit = finishes s.active_len limit s 0

-- ---- a tick or a block that ends at e

-- in mode None the finished are let go
unfoldable pub released_past : Sequencer → ReplayMode → Sequencer
released_past s All = s
released_past s None = with_past (with_let_go s ((s.let_go + s.past_len) % 2 ^ 64)) s.past 0

unfoldable pub advanced : Sequencer → (e : Float) → Sequencer
unfolding released_past ready_to_active active_to_past
advanced s e =
    let a = released_past s s.mode in
    let b = ready_to_active (with_times a a.time (e -ᵈ s.sample_duration ×ᵈ halfᶠ)) in
    let c = active_to_past b (s.time +ᵈ halfᶠ ×ᵈ s.sample_duration) in
    with_times c e c.active_threshold

-- ---- everything waits again

-- the event at place i: of the p finished, and behind these of the sounding
abbrev pub held_at : (p : ℕ) → Sequencer → (i : ℕ) → Event
held_at p s i = cond (nat_lt i p) (slice_index_or s.past i blank) (slice_index_or s.active (i - p) blank)

-- f of them, from place i on
unfoldable pub to_ready : (f p i : ℕ) → Sequencer → Sequencer
unfolding pushed_ready
to_ready zero p i s = s
to_ready (suc f) p i s = to_ready f p (suc i) (pushed_ready s (held_at p s i))

unfoldable pub all_to_ready : Sequencer → Sequencer
unfolding to_ready
all_to_ready s =
    let p = min s.past_len 256 in
    let a = to_ready (p + min s.active_len 256) p 0 s in
    with_active (with_past a a.past 0) a.active a.active_map 0
