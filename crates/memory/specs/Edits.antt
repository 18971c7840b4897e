-- The places of the stored edits, and of a sounding event's end and fade-out.
use Rattle.std.specs.Prelude.{Bool, true, false, cond, List, ◌≢◌, ◌⊎◌, ◌≡◌, refl, ℕ, zero, suc, ◌+◌, ◌*◌, ◌≤◌, ◌<◌, eqb, leb, Float, set}
use Rattle.std.proofs.Common.{inl, inr, sym, ap₂, ◌∙◌, arith, leb-true, length-set, get_or-set_same, get_or-set_other}
use Rattle.std.proofs.Math.Path.{ap}
use Rattle.std.specs.Float.{nan}
use Rattle.std.proofs.Math.ListN.{get_or}
use Rattle.event.specs.declared.Event.{Event}
use Rattle.event.specs.declared.Edit.{Edit}
use Rattle.event.specs.declared.EventId.{EventId}
use Rattle.event.specs.declared.StoredEdit.{StoredEdit}
use Rattle.event.specs.Events.{edited_by}
use Rattle.event.specs.Blank.{blank}
use Rattle.lists.specs.declared.EditMap.{EditMap}
use Rattle.std.specs.declared.option.Option.{Option}
use Rattle.std.specs.declared.option.Option.TheVariants.{Some, None}
use Rattle.lists.specs.Search.{seek}
use Rattle.lists.specs.Index.{found_id, no_id, is_id}
use Rattle.lists.specs.Edits.{placed, no_edit, is_edit}
use Rattle.sequencer.specs.Parts.{with_edits, with_sounding}
use Rattle.sequencer.specs.Edits.{index_of}
use Rattle.memory.specs.Rows.{rows, rows_get, rows_same, rows-set}
use Rattle.memory.specs.Memory.{Cells, cells_of, event_at, id_at, edit_at, mode_if, engine_of}
use Rattle.memory.specs.Laws.{Sized, with_number, sounds-at}

abbrev pub id_of : ℕ → EventId
id_of k = record { 0 = k }

abbrev pub edit_of : (k : ℕ) → (end fade_out : Float) → StoredEdit
edit_of k a b = record { id = id_of k; edit = record { end_time = a; fade_out = b } }

abbrev pub edits_of : List StoredEdit → ℕ → EditMap
edits_of xs n = record { items = xs; len = n }

-- the event with the edit that was found
abbrev pub edited_if : Option Edit → Event → Event
edited_if (Some d) e = edited_by d e
edited_if None e = e

-- ---- the places

-- the stored edit j
abbrev pub with_edit : Cells → (j k : ℕ) → (end fade_out : Float) → Cells
with_edit c j k a b = cells_of (set (set c.times (3076 + 2 * j) a) (3077 + 2 * j) b) c.levels c.marks (set c.numbers (1024 + j) k)

-- end and fade-out of the slot k
abbrev pub with_end : Cells → (k : ℕ) → (end fade_out : Float) → Cells
with_end c k a b = cells_of (set (set c.times (4 * k + 1) a) (4 * k + 3) b) c.levels c.marks c.numbers

module _ (c : Cells) (t : List Float) (n : List ℕ) where
  abbrev there : Cells
  there = cells_of t c.levels c.marks n

  module _ (ht : (q : ℕ) → q < 3072 → get_or t q nan ≡ get_or c.times q nan) (hn : (q : ℕ) → q < 768 → get_or n q 0 ≡ get_or c.numbers q 0) where
    same_slot : (j : ℕ) → j < 768 → event_at there j ≡ event_at c j
    same_slot j h = rw (ht (4 * j) (omega arith), ht (4 * j + 1) (omega arith), ht (4 * j + 2) (omega arith), ht (4 * j + 3) (omega arith), hn j h)

    same_slots : (i : ℕ) → i ≤ 512 → rows (event_at there) i 256 ≡ rows (event_at c) i 256
    same_slots i h = rows_same (event_at c) (event_at there) i 256 (λ j p q. same_slot j (omega (arith, h, q)))

  -- other stored edits, and the rest as it was
  edits-only : ((q : ℕ) → q < 3076 → get_or t q nan ≡ get_or c.times q nan) → ((q : ℕ) → q < 1024 → get_or n q 0 ≡ get_or c.numbers q 0)
      → ((q : ℕ) → 1280 ≤ q → q ≢ 1283 → get_or n q 0 ≡ get_or c.numbers q 0) → (xs : List StoredEdit) (m : ℕ) → rows (edit_at there) 1024 256 ≡ xs
      → get_or n 1283 0 ≡ m
      → engine_of there ≡ with_edits (engine_of c) (edits_of xs m)
  unfolding engine_of
  edits-only ht hn hm xs m e l =
      let slots : (i : ℕ) → i ≤ 512 → rows (event_at there) i 256
      ≡ rows (event_at c) i 256 = same_slots (λ q h. ht q (omega (arith, h))) (λ q h. hn q (omega (arith, h))) in
      let index : rows (id_at there) 768 256 ≡ rows (id_at c) 768 256 = rows_same (id_at c) (id_at there) 768 256 (λ j p q. ap id_of (hn j (omega (arith, q)))) in
      λ d. record {
        ready = slots 0 (omega arith) d;
        ready_len = hm 1280 (omega arith) (λ x. absurd (omega (arith, x))) d;
        active = slots 256 (omega arith) d;
        active_len = hm 1281 (omega arith) (λ x. absurd (omega (arith, x))) d;
        active_map = index d;
        past = slots 512 (omega arith) d;
        past_len = hm 1282 (omega arith) (λ x. absurd (omega (arith, x))) d;
        edit_map = record { items = e d; len = l d };
        time = ht 3072 (omega arith) d;
        active_threshold = ht 3073 (omega arith) d;
        sample_rate = ht 3074 (omega arith) d;
        sample_duration = ht 3075 (omega arith) d;
        outputs = hm 1284 (omega arith) (λ x. absurd (omega (arith, x))) d;
        mode = mode_if (eqb (hm 1285 (omega arith) (λ x. absurd (omega (arith, x))) d) 0);
        next = hm 1286 (omega arith) (λ x. absurd (omega (arith, x))) d;
        let_go = hm 1287 (omega arith) (λ x. absurd (omega (arith, x))) d;
      }

-- the stored edit at a place
pub stored-at : (c : Cells) (j : ℕ) (d : StoredEdit) → j < 256
    → edit_of (get_or c.numbers (1024 + j) 0) (get_or c.times (3076 + 2 * j) nan) (get_or c.times (3077 + 2 * j) nan)
    ≡ get_or (engine_of c).edit_map.items j d
unfolding engine_of
stored-at c j d h =
    let p : 3076 + 2 * j ≡ 1028 + 2 * (1024 + j) = omega arith in
    let q : 3077 + 2 * j ≡ 1029 + 2 * (1024 + j) = omega arith in
    ap₂ (λ (x y : ℕ). edit_of (get_or c.numbers (1024 + j) 0) (get_or c.times x nan) (get_or c.times y nan)) p q ∙ sym (rows_get (edit_at c) 1024 256 j d h)

pub edits_count : (c : Cells) → get_or c.numbers 1283 0 ≡ (engine_of c).edit_map.len
unfolding engine_of
edits_count c = refl

pub edit_sized : (c : Cells) (j k : ℕ) (a b : Float) → Sized c → Sized (with_edit c j k a b)
edit_sized c j k a b z = record {
  times = length-set (set c.times (3076 + 2 * j) a) (3077 + 2 * j) b ∙ length-set c.times (3076 + 2 * j) a ∙ z.times;
  levels = z.levels;
  marks = z.marks;
  numbers = length-set c.numbers (1024 + j) k ∙ z.numbers;
}

-- a stored edit at place j
module _ (c : Cells) (z : Sized c) (j : ℕ) (h : j < 256) (k : ℕ) (a b : Float) where
  abbrev after : Cells
  after = with_edit c j k a b

  time_other : (q : ℕ) → q ≢ 3076 + 2 * j → q ≢ 3077 + 2 * j → get_or after.times q nan ≡ get_or c.times q nan
  time_other q x y = get_or-set_other (set c.times (3076 + 2 * j) a) (3077 + 2 * j) q b nan y ∙ get_or-set_other c.times (3076 + 2 * j) q a nan x

  number_other : (q : ℕ) → q ≢ 1024 + j → get_or after.numbers q 0 ≡ get_or c.numbers q 0
  number_other q x = get_or-set_other c.numbers (1024 + j) q k 0 x

  edit_here : edit_at after (1024 + j) ≡ edit_of k a b
  edit_here =
      let p : 1028 + 2 * (1024 + j) ≡ 3076 + 2 * j = omega arith in
      let q : 1029 + 2 * (1024 + j) ≡ 3077 + 2 * j = omega arith in
      let first : get_or after.times (3076 + 2 * j) nan ≡ a =
      get_or-set_other (set c.times (3076 + 2 * j) a) (3077 + 2 * j) (3076 + 2 * j) b nan (λ x. absurd (omega (arith, x)))
      ∙ get_or-set_same c.times (3076 + 2 * j) a nan (omega (arith, z.times)) in
      let second : get_or after.times (3077 + 2 * j) nan ≡ b = get_or-set_same (set c.times (3076 + 2 * j) a) (3077 + 2 * j) b nan
      (omega (arith, length-set c.times (3076 + 2 * j) a, z.times)) in
      ap₂ (λ (x y : ℕ). edit_of (get_or after.numbers (1024 + j) 0) (get_or after.times x nan) (get_or after.times y nan)) p q
      ∙ rw (first, second, get_or-set_same c.numbers (1024 + j) k 0 (omega (arith, z.numbers)))

  edit-other : (i : ℕ) → i ≢ 1024 + j → edit_at after i ≡ edit_at c i
  edit-other i x = rw (
    number_other i x,
    time_other (1028 + 2 * i) (λ e. x (omega (arith, e))) (λ e. absurd (omega (arith, e))),
    time_other (1029 + 2 * i)
        (λ e. absurd (omega (arith, e))) (λ e. x (omega (arith, e))),
  )

  pub edit-is : engine_of (with_edit c j k a b) ≡ with_edits (engine_of c)
      (edits_of (set (engine_of c).edit_map.items j (edit_of k a b)) (engine_of c).edit_map.len)
  unfolding engine_of
  edit-is = edits-only c after.times after.numbers (λ q l. time_other q (λ e. absurd (omega (arith, l, e))) (λ e. absurd (omega (arith, l, e))))
      (λ q l. number_other q (λ e. absurd (omega (arith, l, e))))
      (λ q l w. number_other q (λ e. absurd (omega (arith, l, e, h)))) _ _
      (rows-set (edit_at c) (edit_at after) 1024 256 j (edit_of k a b) h edit_here (λ i l u w. edit-other i w))
      (number_other 1283 (λ e. absurd (omega (arith, e, h))))

-- how many edits are stored
pub edits_are : (c : Cells) (x : ℕ) → Sized c → engine_of (with_number c 1283 x) ≡ with_edits (engine_of c) (edits_of (engine_of c).edit_map.items x)
unfolding engine_of
edits_are c x z =
    let kept : (q : ℕ) → q ≢ 1283 → get_or (set c.numbers 1283 x) q 0 ≡ get_or c.numbers q 0 = λ q w. get_or-set_other c.numbers 1283 q x 0 w in
    edits-only c c.times (set c.numbers 1283 x) (λ q l. refl) (λ q l. kept q (λ e. absurd (omega (arith, l, e)))) (λ q l w. kept q w) _ _
    (rows_same (edit_at c) (edit_at (with_number c 1283 x)) 1024 256 (λ j l u. rw (kept j (λ e. absurd (omega (arith, u, e))))))
    (get_or-set_same c.numbers 1283 x 0 (omega (arith, z.numbers)))

-- ---- a number among those of a list

-- its place among the first n of 256 numbers from `first` on. A count above 256 is corrupt: nothing is found
abbrev pub found_in : List ℕ → (first n k : ℕ) → Option ℕ
found_in l first n k = cond (leb n 256) (seek no_id (is_id (id_of k)) n (rows (λ (i : ℕ). id_of (get_or l i 0)) first 256) 0) None

pub sounding_found : (c : Cells) (k : ℕ) → found_in c.numbers 768 (get_or c.numbers 1281 0) k ≡ found_id (index_of (engine_of c)) (id_of k)
unfolding engine_of found_id
sounding_found c k = refl

same_search : (c : Cells) (k f i : ℕ) → i + f ≤ 256 → seek no_id (is_id (id_of k)) f (rows (id_at c) 1024 256) i
    ≡ seek no_edit (is_edit (id_of k)) f (rows (edit_at c) 1024 256) i
unfolding seek
same_search c k zero i h = refl
same_search c k (suc f) i h =
    rw (rows_get (id_at c) 1024 256 i no_id (omega arith), rows_get (edit_at c) 1024 256 i no_edit (omega arith), same_search c k f (suc i) (omega arith))

same-found : (c : Cells) (k n : ℕ) → found_in c.numbers 1024 n k ≡ cond (leb n 256) (seek no_edit (is_edit (id_of k)) n (rows (edit_at c) 1024 256) 0) None
same-found c k n = go (leb n 256) (leb-true n 256)
  where
    go : (b : Bool) → (b ≡ true → n ≤ 256) → cond b (seek no_id (is_id (id_of k)) n (rows (id_at c) 1024 256) 0) None
        ≡ cond b (seek no_edit (is_edit (id_of k)) n (rows (edit_at c) 1024 256) 0) None
    go true l = same_search c k n 0 (omega (arith, l refl))
    go false l = refl

pub edit-found : (c : Cells) (k : ℕ) → found_in c.numbers 1024 (get_or c.numbers 1283 0) k ≡ placed (engine_of c).edit_map (id_of k)
unfolding engine_of placed
edit-found c k = same-found c k (get_or c.numbers 1283 0)

-- ---- end and fade-out of a sounding event

module _ (c : Cells) (z : Sized c) (i : ℕ) (h : i < 256) (a b : Float) where
  abbrev ended : Cells
  ended = with_end c (256 + i) a b

  end_other : (q : ℕ) → q ≢ 4 * (256 + i) + 1 → q ≢ 4 * (256 + i) + 3 → get_or ended.times q nan ≡ get_or c.times q nan
  end_other q x y = get_or-set_other (set c.times (4 * (256 + i) + 1) a) (4 * (256 + i) + 3) q b nan y
      ∙ get_or-set_other c.times (4 * (256 + i) + 1) q a nan x

  slot_other : (j : ℕ) → j ≢ 256 + i → event_at ended j ≡ event_at c j
  slot_other j x =
      rw (
        end_other (4 * j) (λ e. absurd (omega (arith, e))) (λ e. absurd (omega (arith, e))),
        end_other (4 * j + 1) (λ e. x (omega (arith, e))) (λ e. absurd (omega (arith, e))),
        end_other (4 * j + 2) (λ e. absurd (omega (arith, e))) (λ e. absurd (omega (arith, e))),
        end_other (4 * j + 3) (λ e. absurd (omega (arith, e))) (λ e. x (omega (arith, e))),
      )

  slot_here : event_at ended (256 + i) ≡ edited_by (record { end_time = a; fade_out = b }) (event_at c (256 + i))
  slot_here =
      let first : get_or ended.times (4 * (256 + i) + 1) nan ≡ a =
      get_or-set_other (set c.times (4 * (256 + i) + 1) a) (4 * (256 + i) + 3) (4 * (256 + i) + 1) b nan (λ x. absurd (omega (arith, x)))
      ∙ get_or-set_same c.times (4 * (256 + i) + 1) a nan (omega (arith, z.times)) in
      let second : get_or ended.times (4 * (256 + i) + 3) nan ≡ b =
      get_or-set_same (set c.times (4 * (256 + i) + 1) a) (4 * (256 + i) + 3) b nan (omega (arith, length-set c.times (4 * (256 + i) + 1) a, z.times)) in
      rw (
        end_other (4 * (256 + i)) (λ e. absurd (omega (arith, e))) (λ e. absurd (omega (arith, e))),
        first,
        end_other (4 * (256 + i) + 2) (λ e. absurd (omega (arith, e))) (λ e. absurd (omega (arith, e))),
        second,
      )

  slots_other : (k : ℕ) → (k + 256 ≤ 256 + i) ⊎ (256 + i < k) → rows (event_at ended) k 256 ≡ rows (event_at c) k 256
  slots_other k (inl l) = rows_same (event_at c) (event_at ended) k 256 (λ j p q. slot_other j (λ e. absurd (omega (arith, l, p, q, e))))
  slots_other k (inr l) = rows_same (event_at c) (event_at ended) k 256 (λ j p q. slot_other j (λ e. absurd (omega (arith, l, p, q, e))))

  sounds_here : rows (event_at ended) 256 256 ≡ set (rows (event_at c) 256 256) i (event_at ended (256 + i))
  sounds_here = rows-set (event_at c) (event_at ended) 256 256 i (event_at ended (256 + i)) h refl (λ j p q w. slot_other j w)

  edits-kept : rows (edit_at ended) 1024 256 ≡ rows (edit_at c) 1024 256
  edits-kept = rows_same (edit_at c) (edit_at ended) 1024 256 (λ j p q.
      rw (
        end_other (1028 + 2 * j) (λ e. absurd (omega (arith, p, h, e))) (λ e. absurd (omega (arith, p, h, e))),
        end_other (1029 + 2 * j)
            (λ e. absurd (omega (arith, p, h, e))) (λ e. absurd (omega (arith, p, h, e))),
      ))

  late : (q : ℕ) → 3072 ≤ q → get_or ended.times q nan ≡ get_or c.times q nan
  late q l = end_other q (λ e. absurd (omega (arith, l, h, e))) (λ e. absurd (omega (arith, l, h, e)))

  end_kept : engine_of ended ≡ with_sounding (engine_of c) (set (engine_of c).active i (event_at ended (256 + i)))
  unfolding engine_of
  end_kept = λ d. record {
    ready = slots_other 0 (inl (omega arith)) d;
    ready_len = get_or c.numbers 1280 0;
    active = sounds_here d;
    active_len = get_or c.numbers 1281 0;
    active_map = rows (id_at c) 768 256;
    past = slots_other 512 (inr (omega arith)) d;
    past_len = get_or c.numbers 1282 0;
    edit_map = record { items = edits-kept d; len = get_or c.numbers 1283 0 };
    time = late 3072 (omega arith) d;
    active_threshold = late 3073 (omega arith) d;
    sample_rate = late 3074 (omega arith) d;
    sample_duration = late 3075 (omega arith) d;
    outputs = get_or c.numbers 1284 0;
    mode = mode_if (eqb (get_or c.numbers 1285 0) 0);
    next = get_or c.numbers 1286 0;
    let_go = get_or c.numbers 1287 0;
  }

  pub end_is : engine_of (with_end c (256 + i) a b) ≡ with_sounding (engine_of c)
      (set (engine_of c).active i (edited_by (record { end_time = a; fade_out = b }) (get_or (engine_of c).active i blank)))
  end_is = end_kept ∙ ap (λ (e : Event). with_sounding (engine_of c) (set (engine_of c).active i e)) (slot_here
      ∙ ap (edited_by (record { end_time = a; fade_out = b })) (sounds-at c i blank h))
