-- While W's first starts before the threshold it moves to S's end with its edit: the engine's loop and the ledger's. Assumes nothing.
use Rattle.std.specs.Prelude.{Bool, true, false, ◌&&◌, ◌≡◌, ltb, Float, get_or, length}
use Rattle.std.proofs.Math.Bool.{and-false}
use Rattle.std.proofs.Math.Path.{refl, subst}
use Rattle.std.proofs.Common.{sym, ap, ◌∙◌, arith, length-append}
use mathlib.Core.List.{List, [], ◌∷◌, ◌++◌}
use Rattle.std.proofs.Math.Option.{Option}
use Prim.Native.Nat.{ℕ, zero, suc, ◌+◌, ◌≤◌, ◌<◌}
use Rattle.std.proofs.Math.Dec.{leb}
use Rattle.std.specs.Float.Ieee.{lt}
use borrow.Author.Tests.{lt-ltb, le-ltb, le-leb}
use Rattle.event.specs.declared.Event.{Event}
use Rattle.event.specs.declared.EventId.{EventId}
use Rattle.event.specs.declared.Edit.{Edit}
use Rattle.event.specs.declared.StoredEdit.{StoredEdit}
use Rattle.event.specs.Events.{number_of, edited_by}
use Rattle.event.specs.Blank.{blank}
use Rattle.ledger.specs.Ledger.{Ledger}
use Rattle.ledger.specs.Lists.{start, Started, with_edit, edit_of, drop_edit}
use Rattle.ledger.specs.Sorted.{Sorted}
use Rattle.ready.proofs.Waits.{waits-length}
use Rattle.lists.specs.declared.EditMap.{EditMap}
use Rattle.std.specs.declared.option.Option.{Option as Found}
use Rattle.std.specs.declared.option.Option.TheVariants.{Some, None}
use Rattle.lists.specs.Edits.{found_at, found_edit, removed_at, removed, placed}
use Rattle.lists.specs.EditList.{Edits, edit_found, edits_find, edits_remove}
use Rattle.lists.specs.Holds.{holds-length}
use Rattle.sequencer.specs.declared.Sequencer.{Sequencer}
use Rattle.sequencer.specs.Parts.{with_edits}
use Rattle.sequencer.specs.Moves.{popped_ready, pushed_active, activated_by, activated, activates}
use Rattle.claim.specs.Related.{Lists, Plain, active_is, lists_active, lists-popped}

-- ---- a round of the engine's loop, and its last

module _ (s : Sequencer) where
  activates-none : (f : ℕ) → s.ready_len ≤ 0 → activates f s ≡ s
  unfolding activates
  activates-none zero h = refl
  activates-none (suc f) h = rw (le-ltb 0 s.ready_len h)

  activates-late : (f : ℕ) → lt (get_or s.ready 0 blank).start_time s.active_threshold ≡ false → activates f s ≡ s
  unfolding activates
  activates-late zero h = refl
  activates-late (suc f) h = rw (h, and-false (ltb 0 s.ready_len && leb s.ready_len 256))

  activates-one : (f : ℕ) → 0 < s.ready_len → s.ready_len ≤ 256 → lt (get_or s.ready 0 blank).start_time s.active_threshold ≡ true
      → activates (suc f) s ≡ activates f (activated s (get_or s.ready 0 blank))
  unfolding activates
  activates-one f p q h = rw (lt-ltb 0 s.ready_len p, le-leb s.ready_len 256 q, h)

-- ---- a round of the ledger's

module _ (θ : Float) (e : Event) (w a : List Event) (x : List StoredEdit) where
  start-one : lt e.start_time θ ≡ true → start θ w (a ++ (with_edit (edit_of (number_of e) x) e ∷ [])) (drop_edit (number_of e) x) ≡ start θ (e ∷ w) a x
  unfolding start
  start-one h = rw (h, start)

  start-late : lt e.start_time θ ≡ false → record { waiting = e ∷ w; sounding = a; edits = x } ≡ start θ (e ∷ w) a x
  unfolding start
  start-late h = rw (h, start)

-- a number without an edit: taking its edit out changes nothing
removed-none : (m : EditMap) (k : EventId) → found_edit m k ≡ None → removed m k ≡ m
unfolding found_edit removed
removed-none m k h = go (placed m k) h
  where
    go : (f : Found ℕ) → found_at m f ≡ None → removed_at m f ≡ m
    go (Some i) q = absurd (let z : ◌≡◌ {A = ℕ} 0 1 = cc in omega arith)
    go None q = refl

module _ (l : Ledger) (f : List Event) where
  -- the engine's lists, and the rest of the ledger as it was
  abbrev Both : Sequencer → (waiting sounding : List Event) → List StoredEdit → Type 0
  Both t w a x = Lists t w a f x × Plain t l

  -- the first leaves the heap and sounds as e'
  both_move : (s : Sequencer) (e e' : Event) (w a : List Event) (x : List StoredEdit) → Sorted (e ∷ w) → length a < 256 → Both s (e ∷ w) a x
      → Both (pushed_active (popped_ready s) e') w (a ++ (e' ∷ [])) x
  unfolding popped_ready
  both_move s e e' w a x q room r =
      let k = (lists-popped s e w a f x q r.0).1 in
      let p : (popped_ready s).active_len < 256 = omega (arith, holds-length k.1) in
      (lists_active (popped_ready s) e' w a f x p k, subst (λ (t : Sequencer). Plain t l) (sym (active_is (popped_ready s) e' p)) r.1)

  both-start : (s : Sequencer) (e : Event) (w a : List Event) (x : List StoredEdit) → Sorted (e ∷ w) → length a < 256 → Both s (e ∷ w) a x
      → Both (activated s e) w (a ++ (with_edit (edit_of (number_of e) x) e ∷ [])) (drop_edit (number_of e) x)
  unfolding activated activated_by
  both-start s e w a x q room r = go (found_edit m e.id) refl
    where
      m : EditMap
      m = s.edit_map

      x' : List StoredEdit
      x' = drop_edit (number_of e) x

      rest : Edits (removed m e.id) x'
      rest = edits_remove m e.id x r.0.4

      edit-is : (y : Found Edit) → found_edit m e.id ≡ y → edit_found y ≡ edit_of (number_of e) x
      edit-is y h = ap edit_found (sym h) ∙ edits_find m e.id x r.0.4

      go : (y : Found Edit) → found_edit m e.id ≡ y → Both (activated_by s e y) w (a ++ (with_edit (edit_of (number_of e) x) e ∷ [])) x'
      go (Some d) h =
          subst (λ (o : Option Edit). Both (activated_by s e (Some d)) w (a ++ (with_edit o e ∷ [])) x') (edit-is (Some d) h)
          (both_move (with_edits s (removed m e.id)) e (edited_by d e) w a x' q room ((r.0.0, r.0.1, r.0.2, r.0.3, rest), r.1))
      go None h =
          subst (λ (o : Option Edit). Both (activated_by s e None) w (a ++ (with_edit o e ∷ [])) x') (edit-is None h)
          (both_move s e e w a x' q room ((r.0.0, r.0.1, r.0.2, r.0.3, subst (λ (n : EditMap). Edits n x') (removed-none m e.id h) rest), r.1))

  -- ---- while the first starts before θ

  abbrev After : Sequencer → Started → Type 0
  After t k = Both t k.waiting k.sounding k.edits

  abbrev Claim : List Event → Type 0
  Claim w =
      (n : ℕ) (s : Sequencer) (a : List Event) (x : List StoredEdit) → length w ≤ n → length w + length a ≤ 256 → Sorted w → Both s w a x
      → After (activates n s) (start l.threshold w a x)

  nobody : Claim []
  unfolding start
  nobody n s a x h room q r = subst (λ (t : Sequencer). Both t [] a x) (sym (activates-none s n (omega (arith, waits-length r.0.0)))) r

  turn : (e : Event) (w : List Event) → Claim w → Claim (e ∷ w)
  turn e w ih zero s a x b room q r = absurd (omega arith)
  turn e w ih (suc n) s a x b room q r = go (lt e.start_time θ) refl
    where
      θ : Float
      θ = l.threshold

      first : get_or s.ready 0 blank ≡ e
      first = (lists-popped s e w a f x q r.0).0

      as_many : s.ready_len ≡ suc (length w)
      as_many = waits-length r.0.0

      at : (t : Bool) → lt e.start_time θ ≡ t → lt (get_or s.ready 0 blank).start_time s.active_threshold ≡ t
      at t h = ap (λ (y : Event). lt y.start_time s.active_threshold) first ∙ ap (lt e.start_time) r.1.1 ∙ h

      go : (t : Bool) → lt e.start_time θ ≡ t → After (activates (suc n) s) (start θ (e ∷ w) a x)
      go true h =
          let a' = a ++ (with_edit (edit_of (number_of e) x) e ∷ []) in
          let x' = drop_edit (number_of e) x in
          let z = ih n (activated s e) a' x' (omega arith) (omega (arith, length-append a (with_edit (edit_of (number_of e) x) e ∷ []))) q.1 (both-start s e w a x q (omega arith) r) in
          subst (λ (k : Started). After (activates (suc n) s) k) (start-one θ e w a x h)
          (subst (λ (t : Sequencer). After t (start θ w a' x'))
          (ap (λ (y : Event). activates n (activated s y)) (sym first) ∙ sym (activates-one s n (omega (arith, as_many)) (omega (arith, as_many)) (at true h))) z)
      go false h =
          subst (λ (k : Started). After (activates (suc n) s) k) (start-late θ e w a x h)
          (subst (λ (t : Sequencer). Both t (e ∷ w) a x) (sym (activates-late s (suc n) (at false h))) r)

  pub start-lists : (w : List Event) → Claim w
  start-lists [] = nobody
  start-lists (e ∷ w) = turn e w (start-lists w)
