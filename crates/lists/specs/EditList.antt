-- The edit map is the ledger's E: a plain list of numbers and edits, one per number, in order of first storing. Assumes nothing.
use Rattle.std.specs.Prelude.{◌≡◌, ℕ, suc, ◌+◌, ◌<◌, Bool, true, false, cond, List, [], ◌∷◌, ◌++◌, length, set, ◌==◌, slice_index_or, slice_set, refl}
use Rattle.std.proofs.Math.Path.{sym, ap, subst}
use Rattle.std.proofs.Common.{◌∙◌, arith, lt-ltb}
use Rattle.std.proofs.Math.Option.{Option, none, some}
use Rattle.event.specs.declared.EventId.{EventId}
use Rattle.event.specs.declared.Edit.{Edit}
use Rattle.event.specs.declared.StoredEdit.{StoredEdit}
use Rattle.ledger.specs.Lists.{edit_of, drop_edit, store_edit}
use Rattle.lists.specs.declared.EditMap.{EditMap}
use Rattle.std.specs.declared.option.Option.{Option as Found}
use Rattle.std.specs.declared.option.Option.TheVariants.{Some, None}
use Rattle.lists.specs.Edits.{emptied, placed, found_at, found_edit, stored_at, stored, removed_at, removed, is_edit, no_edit}
use Rattle.lists.specs.Holds.{Holds, holds_to, holds-length, holds-append, holds-set, holds_at, holds-none, holds-shift, holds-seek, place, take_out}

-- the map's first `len` edits are x
abbrev pub Edits : EditMap → List StoredEdit → Type 0
Edits m x = Holds m.items m.len x

abbrev pub edit_found : Found Edit → Option Edit
edit_found (Some d) = some d
edit_found None = none

-- what the ledger makes of a list whose search by number, counted from b, gives a place or nothing
abbrev ByPlace : EventId → Edit → List StoredEdit → ℕ → Found ℕ → Type 0
ByPlace k d l b (Some j) =
    (i : ℕ) × (j ≡ b + i) × (i < length l) × (store_edit k.0 d l ≡ slice_set l i (record { id = k; edit = d })) × (edit_of k.0 l ≡ some (slice_index_or l i no_edit).edit) × (drop_edit k.0 l ≡ take_out l i)
ByPlace k d l b None = (store_edit k.0 d l ≡ l ++ (record { id = k; edit = d } ∷ [])) × (edit_of k.0 l ≡ none) × (drop_edit k.0 l ≡ l)

by_place : (k : EventId) (d : Edit) (l : List StoredEdit) (b : ℕ) → ByPlace k d l b (place (is_edit k) l b)
unfolding place store_edit edit_of drop_edit
by_place k d [] b = (refl, refl, refl)
by_place k d (x ∷ l) b = go (x.id.0 == k.0) refl (place (is_edit k) l (suc b)) (by_place k d l (suc b))
  where
    go : (t : Bool) → (x.id.0 == k.0) ≡ t → (f : Found ℕ) → ByPlace k d l (suc b) f → ByPlace k d (x ∷ l) b (cond (x.id.0 == k.0) (Some b) f)
    go true q f r = rw q (0, omega arith, omega arith, rw (q, store_edit), rw (q, edit_of), rw (q, drop_edit))
    go false q (Some j) r =
        rw q (suc r.0, omega (arith, r.1), omega (arith, r.2), rw (q, store_edit) (ap (λ (y : List StoredEdit). x ∷ y) r.3), rw (q, edit_of) r.4, rw (q, drop_edit) (ap (λ (y : List StoredEdit). x ∷ y) r.5))
    go false q None r = rw q (rw (q, store_edit) (ap (λ (y : List StoredEdit). x ∷ y) r.0), rw (q, edit_of) r.1, rw (q, drop_edit) (ap (λ (y : List StoredEdit). x ∷ y) r.2))

pub edits_new : Edits emptied []
unfolding emptied
edits_new = holds-none emptied.items refl

module _ (m : EditMap) (k : EventId) (x : List StoredEdit) (h : Edits m x) where
  at : (d : Edit) → ByPlace k d x 0 (placed m k)
  unfolding placed
  at d = subst (λ (f : Found ℕ). ByPlace k d x 0 f) (sym (holds-seek no_edit (is_edit k) h)) (by_place k d x 0)

  pub edits_find : edit_found (found_edit m k) ≡ edit_of k.0 x
  unfolding found_edit
  edits_find = go (placed m k) (at no_edit.edit)
    where
      go : (f : Found ℕ) → ByPlace k no_edit.edit x 0 f → edit_found (found_at m f) ≡ edit_of k.0 x
      go (Some j) r =
          let i : j ≡ r.0 = omega (arith, r.1) in
          ap (λ (y : StoredEdit). some y.edit) (holds_at no_edit j (omega (arith, r.1, r.2, holds-length h)) h ∙ ap (λ (n : ℕ). slice_index_or x n no_edit) i) ∙ sym r.4
      go None r = sym r.1

  -- a number that has no edit needs room for one
  pub edits-insert : (d : Edit) → (edit_of k.0 x ≡ none → length x < 256) → Edits (stored m k d) (store_edit k.0 d x)
  unfolding stored
  edits-insert d room = go (placed m k) (at d)
    where
      y : StoredEdit
      y = record { id = k; edit = d }

      go : (f : Found ℕ) → ByPlace k d x 0 f → Edits (stored_at m y f) (store_edit k.0 d x)
      go (Some j) r =
          let i : r.0 ≡ j = omega (arith, r.1) in
          holds_to (ap (λ (n : ℕ). set x n y) (sym i) ∙ sym r.3) (holds-set j y (omega (arith, r.1, r.2, holds-length h)) h)
      go None r =
          let p : m.len < 256 = omega (arith, room r.1, holds-length h) in
          rw (lt-ltb m.len 256 p) (holds_to (sym r.0) (holds-append y p h))

  pub edits_remove : Edits (removed m k) (drop_edit k.0 x)
  unfolding removed
  edits_remove = go (placed m k) (at no_edit.edit)
    where
      go : (f : Found ℕ) → ByPlace k no_edit.edit x 0 f → Edits (removed_at m f) (drop_edit k.0 x)
      go (Some j) r =
          let i : r.0 ≡ j = omega (arith, r.1) in
          holds_to (ap (take_out x) (sym i) ∙ sym r.5) (holds-shift no_edit j (omega (arith, r.1, r.2, holds-length h)) h)
      go None r = holds_to (sym r.2) h
