-- An edit stored, taken out, and the gap that closes.
use Rattle.std.proofs.Common.{◌≡◌, ℕ, ◌+◌, ◌-◌, ◌*◌, ◌<◌, ◌≤◌, true, false, leb, List, get_or, set, sym, refl, ap, ◌∙◌, subst, arith, le-ltb, lt-ltb, le-leb}
use borrow.Author.Tests.{lt-leb}
use lib.Ieee.{Float, nan}
use Rattle.event.specs.declared.Event.{Event}
use Rattle.event.specs.declared.Edit.{Edit}
use Rattle.event.specs.declared.EventId.{EventId}
use Rattle.event.specs.declared.StoredEdit.{StoredEdit}
use Rattle.event.specs.Events.{edited_by}
use Rattle.std.specs.declared.option.Option.{Option}
use Rattle.std.specs.declared.option.Option.TheVariants.{Some, None}
use Rattle.lists.specs.Search.{shift}
use Rattle.lists.specs.Edits.{placed, no_edit, found_at, stored_at, removed_at, found_edit, removed}
use Rattle.lists.specs.Edits as EditMaps
use Rattle.lists.specs.Rounds.{placed-inside, Shifting, shifting_on, shifted}
use Rattle.refusals.specs.Refusals.{roomless}
use Rattle.sequencer.specs.declared.Sequencer.{Sequencer}
use Rattle.sequencer.specs.Parts.{with_edits}
use Rattle.memory.specs.Memory.{Cells, engine_of}
use Rattle.memory.specs.Laws.{Sized, with_number}
use Rattle.memory.specs.Edits.{edit_of, edits_of, edited_if, with_edit, stored-at, edits_count, edit_sized, edit-is, edits_are}

-- ---- the gap closes

-- t is s with the edits from place j on still to move up to make r
pub record Closing (s : Sequencer) (m j : ℕ) (r : List StoredEdit) (t : Sequencer) : Type 0 where
  pub same : t ≡ with_edits s (edits_of t.edit_map.items s.edit_map.len)
  pub shifting : Shifting no_edit m t.edit_map.items j r

pub closing_in : (s : Sequencer) (m at : ℕ) → at ≤ m → Closing s m at (shift no_edit (m - at) s.edit_map.items at) s
closing_in s m at h = record { same = refl; shifting = record { fuel = m - at; exact = omega (arith, h); gives = refl } }

module _ (s : Sequencer) (c : Cells) (z : Sized c) (m j : ℕ) (r : List StoredEdit) (w : Closing s m j r (engine_of c)) where
  pub closing_on : j < m → m < 256 → (x : Edit) → x ≡ record { end_time = get_or c.times (3076 + 2 * (j + 1)) nan; fade_out = get_or c.times (3077 + 2 * (j + 1)) nan }
      → (d : Cells) → d ≡ with_edit c j (get_or c.numbers (1024 + (j + 1)) 0) x.end_time x.fade_out → Sized d × Closing s m (j + 1) r (engine_of d)
  closing_on l h x v d e =
      let xs = (engine_of c).edit_map.items in
      let next : edit_of (get_or c.numbers (1024 + (j + 1)) 0) x.end_time x.fade_out ≡ get_or xs (j + 1) no_edit =
      ap (λ (y : Edit). edit_of (get_or c.numbers (1024 + (j + 1)) 0) y.end_time y.fade_out) v ∙ stored-at c (j + 1) no_edit (omega arith) in
      let to : engine_of d ≡ with_edits (engine_of c) (edits_of (set xs j (get_or xs (j + 1) no_edit)) (engine_of c).edit_map.len) =
      ap engine_of e ∙ edit-is c z j (omega arith) _ _ _ ∙ ap (λ (y : StoredEdit). with_edits (engine_of c) (edits_of (set xs j y) (engine_of c).edit_map.len)) next in (
        subst Sized (sym e) (edit_sized c j _ _ _ z),
        subst (Closing s m (j + 1) r) (sym to)
            (record {
              same = ap (λ (y : Sequencer). with_edits y (edits_of (set xs j (get_or xs (j + 1) no_edit)) y.edit_map.len)) w.same;
              shifting = shifting_on no_edit m xs j r l w.shifting;
            }),
      )

  pub closed : m ≤ j → (at : ℕ) → r ≡ shift no_edit (m - at) s.edit_map.items at → m ≡ s.edit_map.len - 1 → engine_of (with_number c 1283 m) ≡ with_edits s (removed_at s.edit_map (Some at))
  closed l at e q =
      edits_are c m z ∙ ap (λ (x : Sequencer). with_edits x (edits_of (engine_of c).edit_map.items m)) w.same
      ∙ ap (λ (xs : List StoredEdit). with_edits s (edits_of xs m)) (shifted no_edit m (engine_of c).edit_map.items j r l w.shifting ∙ e)
      ∙ ap (λ (k : ℕ). with_edits s (edits_of (shift no_edit (k - at) s.edit_map.items at) k)) q

-- ---- by what the search found

module _ (c : Cells) (k : EventId) (f : Option ℕ) (q : f ≡ placed (engine_of c).edit_map k) where
  pub found-place : (j : ℕ) → f ≡ Some j → (j < (engine_of c).edit_map.len) × ((engine_of c).edit_map.len ≤ 256)
  found-place j h = placed-inside (engine_of c).edit_map k j (sym q ∙ h)

  module _ (z : Sized c) (a b : Float) where
    abbrev told : Sequencer
    told = with_edits (engine_of c) (EditMaps.stored (engine_of c).edit_map k (record { end_time = a; fade_out = b }))

    by : (g : Option ℕ) → f ≡ g → with_edits (engine_of c) (stored_at (engine_of c).edit_map (edit_of k.0 a b) g) ≡ told
    unfolding EditMaps.stored
    by g h = ap (λ (x : Option ℕ). with_edits (engine_of c) (stored_at (engine_of c).edit_map (edit_of k.0 a b) x)) (sym h ∙ q)

    pub stores_again : (j : ℕ) → f ≡ Some j → engine_of (with_edit c j k.0 a b) ≡ told
    stores_again j h = edit-is c z j (omega (arith, (found-place j h).0, (found-place j h).1)) k.0 a b ∙ by (Some j) h

    module _ (h : f ≡ None) (n : ℕ) (e : n ≡ get_or c.numbers 1283 0) where
      count : n ≡ (engine_of c).edit_map.len
      count = e ∙ edits_count c

      pub stores_new : n < 256 → (d : Cells) → d ≡ with_edit c n k.0 a b → engine_of (with_number d 1283 (n + 1)) ≡ told
      stores_new l d p =
          let s = engine_of c in
          edits_are d (n + 1) (subst Sized (sym p) (edit_sized c n k.0 a b z))
          ∙ ap (λ (x : Sequencer). with_edits x (edits_of x.edit_map.items (n + 1))) (ap engine_of p ∙ edit-is c z n l k.0 a b)
          ∙ ap (λ (m : ℕ). with_edits s (edits_of (set s.edit_map.items m (edit_of k.0 a b)) (m + 1))) count
          ∙ room ∙ by None h
        where
          room : with_edits (engine_of c) (edits_of (set (engine_of c).edit_map.items (engine_of c).edit_map.len (edit_of k.0 a b)) ((engine_of c).edit_map.len + 1))
              ≡ with_edits (engine_of c) (stored_at (engine_of c).edit_map (edit_of k.0 a b) None)
          room = rw (lt-ltb (engine_of c).edit_map.len 256 (omega (arith, l, count)))

      pub stores_none : 256 ≤ n → engine_of c ≡ told
      stores_none l = none ∙ by None h
        where
          none : engine_of c ≡ with_edits (engine_of c) (stored_at (engine_of c).edit_map (edit_of k.0 a b) None)
          none = rw (le-ltb (engine_of c).edit_map.len 256 (omega (arith, l, count)))

  -- whether there is no room
  module _ (n : ℕ) where
    room_by : (g : Option ℕ) → f ≡ g → roomless None false (found_at (engine_of c).edit_map g) n ≡ roomless None false (found_edit (engine_of c).edit_map k) n
    unfolding found_edit
    room_by g h = ap (λ (x : Option ℕ). roomless None false (found_at (engine_of c).edit_map x) n) (sym h ∙ q)

    pub room-again : (j : ℕ) → f ≡ Some j → false ≡ roomless None false (found_edit (engine_of c).edit_map k) n
    unfolding roomless
    room-again j h = room_by (Some j) h

    room_new : f ≡ None → leb 256 n ≡ roomless None false (found_edit (engine_of c).edit_map k) n
    unfolding roomless
    room_new h = room_by None h

  module _ (h : f ≡ None) (n : ℕ) (e : n ≡ get_or c.numbers 1283 0) where
    pub room-left : n < 256 → false ≡ roomless None false (found_edit (engine_of c).edit_map k) (engine_of c).edit_map.len
    room-left l = sym (lt-leb 256 (engine_of c).edit_map.len (omega (arith, l, e, edits_count c))) ∙ room_new (engine_of c).edit_map.len h

    pub room-none : 256 ≤ n → true ≡ roomless None false (found_edit (engine_of c).edit_map k) (engine_of c).edit_map.len
    room-none l = sym (le-leb 256 (engine_of c).edit_map.len (omega (arith, l, e, edits_count c))) ∙ room_new (engine_of c).edit_map.len h

  module _ (e : Event) where
    pub takes : (j : ℕ) → f ≡ Some j → (t : Sequencer) → t ≡ with_edits (engine_of c) (removed_at (engine_of c).edit_map (Some j))
        → (g : Event) → g ≡ edited_by (record { end_time = get_or c.times (3076 + 2 * j) nan; fade_out = get_or c.times (3077 + 2 * j) nan }) e
        → (t ≡ with_edits (engine_of c) (removed (engine_of c).edit_map k)) × (g ≡ edited_if (found_edit (engine_of c).edit_map k) e)
    unfolding removed found_edit
    takes j h t u g v = (
      u ∙ ap (λ (x : Option ℕ). with_edits (engine_of c) (removed_at (engine_of c).edit_map x)) (sym h ∙ q),
      v ∙ ap (λ (x : StoredEdit). edited_by x.edit e) (stored-at c j no_edit (omega (arith, (found-place j h).0, (found-place j h).1)))
          ∙ ap (λ (x : Option ℕ). edited_if (found_at (engine_of c).edit_map x) e) (sym h ∙ q),
    )

    pub takes_none : f ≡ None → (engine_of c ≡ with_edits (engine_of c) (removed (engine_of c).edit_map k)) × (e ≡ edited_if (found_edit (engine_of c).edit_map k) e)
    unfolding removed found_edit
    takes_none h = (ap (λ (x : Option ℕ). with_edits (engine_of c) (removed_at (engine_of c).edit_map x)) (sym h ∙ q), ap (λ (x : Option ℕ). edited_if (found_at (engine_of c).edit_map x) e) (sym h ∙ q))
