-- An edit's outcome, by what the code found.
use Rattle.std.proofs.Common.{◌≡◌, ℕ, ◌+◌, ◌*◌, ◌<◌, Bool, true, false, cond, not, ◌&&◌, eqb, ◌≢◌, List, get_or, set, sym, refl, ap, ◌∙◌, ap₂, true≢false, arith, le-ltb, leb-true}
use lib.Ieee.{Float, lt, nan}
use Rattle.event.specs.declared.Edit.{Edit}
use Rattle.event.specs.declared.EventId.{EventId}
use Rattle.event.specs.Events.{edited_by}
use Rattle.event.specs.Blank.{blank}
use Rattle.floats.specs.Arithmetic.{◌<ᶠ◌}
use Rattle.ledger.specs.Calls.{EditKind}
use Rattle.ledger.specs.Refusals.{edit_end, within, within_end}
use Rattle.std.specs.declared.option.Option.{Option}
use Rattle.std.specs.declared.option.Option.TheVariants.{Some, None}
use Rattle.lists.specs.Index.{found_id}
use Rattle.event.specs.declared.StoredEdit.{StoredEdit}
use Rattle.lists.specs.declared.EditMap.{EditMap}
use Rattle.lists.specs.Edits.{placed, found_at, stored_at, found_edit}
use Rattle.lists.specs.Edits as EditMaps
use Rattle.lists.specs.Rounds.{found_inside}
use Rattle.refusals.specs.Refusals.{roomless, no_room, edit_limits, edit_refusal}
use Rattle.sequencer.specs.declared.Sequencer.{Sequencer}
use Rattle.sequencer.specs.declared.Outcome.{Outcome}
use Rattle.sequencer.specs.declared.Answer.{Answer}
use Rattle.sequencer.specs.declared.Answer.TheVariants.{Applied, Past, Stored, Refused}
use Rattle.sequencer.specs.Parts.{with_edits, with_sounding}
use Rattle.sequencer.specs.Outcomes.{refuses}
use Rattle.sequencer.specs.Edits.{index_of, changed_by, changed, amended, edits}
use Rattle.memory.specs.Memory.{Cells, cells_of, engine_of}
use Rattle.memory.specs.Laws.{Sized}
use Rattle.memory.specs.Edits.{end_is}
use Rattle.memory.specs.Clock.{clock_in}

-- t and r are the engine and the answer of the outcome o
abbrev pub Tells : Outcome → Sequencer → Answer → Type 0
Tells o t r = (t ≡ o.sequencer) × (r ≡ o.answer)

-- with no room nothing is stored
unstored-at : (a : EditMap) (x : StoredEdit) (p : Option ℕ) → roomless None false (found_at a p) a.len ≡ true → stored_at a x p ≡ a
unfolding roomless
unstored-at a x (Some i) h = absurd (true≢false (sym h))
unstored-at a x None h = rw (le-ltb a.len 256 (leb-true 256 a.len h))

unstored : (a : EditMap) (k : EventId) (d : Edit) → roomless None false (found_edit a k) a.len ≡ true → EditMaps.stored a k d ≡ a
unfolding found_edit EditMaps.stored
unstored a k d h = unstored-at a (record { id = k; edit = d }) (placed a k) h

module _ (s : Sequencer) (k : EventId) (end until fade_out : Float) where
  abbrev edit : Edit
  edit = record { end_time = until; fade_out = fade_out }

  abbrev full : Option ℕ → Bool → Bool
  full f over = roomless f over (found_edit s.edit_map k) s.edit_map.len

  abbrev by_number : (m : ℕ) → Option ℕ → (over : Bool) → Outcome
  by_number m f over = cond (eqb m 0) (changed_by s k edit f over) (refuses s m)

  abbrev by_room : (wide room : Bool) → Option ℕ → (over : Bool) → Outcome
  by_room wide room f over = by_number (cond wide 8 (cond room 9 0)) f over

  abbrev wide : Bool
  wide = not (within_end end && within fade_out)

  told : amended s k end until fade_out ≡ by_room wide (full (found_id (index_of s) k) (until <ᶠ s.active_threshold)) (found_id (index_of s) k) (until <ᶠ s.active_threshold)
  unfolding amended edit_refusal no_room changed
  told = refl

  -- refused by its limits
  beyond : (b x : Bool) (f : Option ℕ) (over : Bool) (m : ℕ) → m ≡ cond b 8 0 → m ≢ 0 → Tells (by_room b x f over) s (Refused m)
  beyond true x f over m q h = (refl, ap Refused q)
  beyond false x f over m q h = absurd (h q)

  pub tells-beyond : (m : ℕ) → m ≡ edit_limits end fade_out → m ≢ 0 → Tells (amended s k end until fade_out) s (Refused m)
  unfolding edit_limits
  tells-beyond m q h =
      let r : Tells (by_room wide (full (found_id (index_of s) k) (until <ᶠ s.active_threshold)) (found_id (index_of s) k) (until <ᶠ s.active_threshold)) s (Refused m) =
      beyond wide (full (found_id (index_of s) k) (until <ᶠ s.active_threshold)) (found_id (index_of s) k) (until <ᶠ s.active_threshold) m q h in
      (r.0 ∙ ap (λ (o : Outcome). o.sequencer) (sym told), r.1 ∙ ap (λ (o : Outcome). o.answer) (sym told))

  narrow : (b : Bool) (m : ℕ) → m ≡ cond b 8 0 → m ≡ 0 → b ≡ false
  narrow true m q h = absurd (omega (arith, q, h))
  narrow false m q h = refl

  -- within its limits
  module _ (m : ℕ) (q : m ≡ edit_limits end fade_out) (h : m ≡ 0) (f : Option ℕ) (p : f ≡ found_id (index_of s) k) where
    inside : wide ≡ false
    unfolding edit_limits
    inside = narrow wide m q h

    told_by_lem : (over : Bool) → (until <ᶠ s.active_threshold) ≡ over → (g : Option ℕ) → f ≡ g → amended s k end until fade_out ≡ by_room false (full g over) g over
    told_by_lem over e g w =
        told ∙ ap (λ (b : Bool). by_room b (full (found_id (index_of s) k) (until <ᶠ s.active_threshold)) (found_id (index_of s) k) (until <ᶠ s.active_threshold)) inside
        ∙ ap₂ (λ (x : Option ℕ) (o : Bool). by_room false (full x o) x o) (sym p ∙ w) e

    tells : (o : Outcome) → amended s k end until fade_out ≡ o → (t : Sequencer) (r : Answer) → Tells o t r → Tells (amended s k end until fade_out) t r
    tells o e t r u = (u.0 ∙ ap (λ (x : Outcome). x.sequencer) (sym e), u.1 ∙ ap (λ (x : Outcome). x.answer) (sym e))

    pub tells_applied : (i : ℕ) → f ≡ Some i → (t : Sequencer) → t ≡ with_sounding s (set s.active i (edited_by edit (get_or s.active i blank))) → Tells (amended s k end until fade_out) t Applied
    unfolding roomless changed_by
    tells_applied i w t u = tells _ (told_by_lem (until <ᶠ s.active_threshold) refl (Some i) w) t Applied (u, refl)

    pub tells_past : f ≡ None → (until <ᶠ s.active_threshold) ≡ true → Tells (amended s k end until fade_out) s Past
    unfolding roomless changed_by
    tells_past w e = tells _ (told_by_lem true e None w) s Past (refl, refl)

    module _ (w : f ≡ None) (e : (until <ᶠ s.active_threshold) ≡ false) (room : Bool) (g : room ≡ full None false) where
      left : room ≡ false → amended s k end until fade_out ≡ changed_by s k edit None false
      left l = told_by_lem false e None w ∙ ap (λ (x : Bool). by_room false x None false) (sym g ∙ l)

      pub tells-stored : room ≡ false → (t : Sequencer) → t ≡ with_edits s (EditMaps.stored s.edit_map k edit) → Tells (amended s k end until fade_out) t Stored
      unfolding changed_by
      tells-stored l t u = tells _ (left l) t Stored (u, refl)

      none : room ≡ true → amended s k end until fade_out ≡ refuses s 9
      none l = told_by_lem false e None w ∙ ap (λ (x : Bool). by_room false x None false) (sym g ∙ l)

      pub tells-full : room ≡ true → (t : Sequencer) → t ≡ with_edits s (EditMaps.stored s.edit_map k edit) → Tells (amended s k end until fade_out) t (Refused 9)
      tells-full l t u = tells _ (none l) t (Refused 9) (u ∙ ap (with_edits s) (unstored s.edit_map k edit (sym g ∙ l)), refl)

-- ---- of cells: the clock and the threshold stand among the times

pub found-place : (c : Cells) (k : EventId) (f : Option ℕ) → f ≡ found_id (index_of (engine_of c)) k → (i : ℕ) → f ≡ Some i → i < 256
found-place c k f p i h = let r = found_inside (index_of (engine_of c)) k i (sym p ∙ h) in omega (arith, r.0, r.1)

pub over-is : (c : Cells) (x : Float) → (x <ᶠ (engine_of c).active_threshold) ≡ lt x (get_or c.times 3073 nan)
unfolding engine_of
over-is c x = refl

pub ends_at : (c : Cells) (z : Sized c) (k : EventId) (f : Option ℕ) (p : f ≡ found_id (index_of (engine_of c)) k) (i : ℕ) (h : f ≡ Some i) (a b : Float) (l : List Float) → l ≡ set (set c.times (4 * (256 + i) + 1) a) (4 * (256 + i) + 3) b
    → engine_of (cells_of l c.levels c.marks c.numbers) ≡ with_sounding (engine_of c) (set (engine_of c).active i (edited_by (record { end_time = a; fade_out = b }) (get_or (engine_of c).active i blank)))
ends_at c z k f p i h a b l e = ap (λ (x : List Float). engine_of (cells_of x c.levels c.marks c.numbers)) e ∙ end_is c z i (found-place c k f p i h) a b

pub tells-edit : (c : Cells) (kind : EditKind) (k : EventId) (end until fade_out : Float) (t : Sequencer) (r : Answer) → until ≡ edit_end kind (get_or c.times 3072 nan) end
    → (P : Type 0) → (let o = amended (engine_of c) k end until fade_out in let x = edits kind (engine_of c) k end fade_out in
    (t ≡ o.sequencer) × ((r ≡ o.answer) × P) → (t ≡ x.sequencer) × ((r ≡ x.answer) × P))
unfolding edits
tells-edit c kind k end until fade_out t r u P w =
    let e : until ≡ edit_end kind (engine_of c).time end = u ∙ ap (λ (x : Float). edit_end kind x end) (clock_in c) in
    let o : amended (engine_of c) k end until fade_out ≡ amended (engine_of c) k end (edit_end kind (engine_of c).time end) fade_out = ap (λ (x : Float). amended (engine_of c) k end x fade_out) e in
    (w.0 ∙ ap (λ (x : Outcome). x.sequencer) o, (w.1.0 ∙ ap (λ (x : Outcome). x.answer) o, w.1.1))
