-- A turn of the two loops over the windows, and how each ends. Assumes nothing.
use Rattle.std.specs.Prelude.{◌≡◌, ◌⊎◌, Bool, true, false, List, [], ◌∷◌, ℕ, ◌+◌, max, ◌≤◌, ◌<◌, Option, Some, None, length, get_or, drop}
use Rattle.std.proofs.Common.{sym, ◌∙◌, ⊎_elim}
use native.Mathlib.Numerals.{add-one}
use borrow.Author.Tests.{lt-ltb, le-ltb, le-leb, lt-leb}
use lib.ListN.{drop_of_length-le}
use lib.Seq.{drop-cons}
use Rattle.lodge.specs.declared.Window.{Window}
use Rattle.lodge.specs.Hours.{none}
use Rattle.lodge.specs.Search.{orderly, first_from}

-- the windows from place i on, of which there is one more
next : (l : List Window) (i : ℕ) → i < length l → drop i l ≡ get_or l i none ∷ drop (i + 1) l
next l i h = rw add-one (drop-cons l i none h)

over : (l : List Window) (i : ℕ) → length l ≤ i → drop i l ≡ []
over l i h = drop_of_length-le l {i = i} h

module _ (l : List Window) (i last : ℕ) (r : Bool) (h : i < length l) (e : orderly last (drop i l) ≡ r) where
  early : (get_or l i none).opens < last → false ≡ r
  unfolding orderly
  early a = sym (sym e ∙ rw (next l i h, lt-leb last (get_or l i none).opens a))

  empty : last ≤ (get_or l i none).opens → (get_or l i none).closes ≤ (get_or l i none).opens → false ≡ r
  unfolding orderly
  empty a b = sym (sym e ∙ rw (next l i h, le-leb last (get_or l i none).opens a, le-ltb (get_or l i none).opens (get_or l i none).closes b))

  late : last ≤ (get_or l i none).opens → (get_or l i none).opens < (get_or l i none).closes → 10080 < (get_or l i none).closes → false ≡ r
  unfolding orderly
  late a b d = sym (sym e ∙ rw (next l i h, le-leb last (get_or l i none).opens a, lt-ltb (get_or l i none).opens (get_or l i none).closes b, lt-leb (get_or l i none).closes 10080 d))

  -- the tests of a turn, in their order
  pub wrong : let w = get_or l i none in (w.opens < last) ⊎ (((last ≤ w.opens) × (w.closes ≤ w.opens)) ⊎ ((last ≤ w.opens) × (w.opens < w.closes) × (10080 < w.closes))) → false ≡ r
  wrong x = ⊎_elim early (⊎_elim (λ y. empty y.0 y.1) (λ y. late y.0 y.1 y.2)) x

  pub passed : last ≤ (get_or l i none).opens → (get_or l i none).opens < (get_or l i none).closes → (get_or l i none).closes ≤ 10080
      → orderly (get_or l i none).closes (drop (i + 1) l) ≡ r
  unfolding orderly
  passed a b d = sym (rw (next l i h, le-leb last (get_or l i none).opens a, lt-ltb (get_or l i none).opens (get_or l i none).closes b, le-leb (get_or l i none).closes 10080 d)) ∙ e

pub all-passed : (l : List Window) (i last : ℕ) (r : Bool) → length l ≤ i → orderly last (drop i l) ≡ r → true ≡ r
unfolding orderly
all-passed l i last r h e = rw (over l i h) at e

module _ (l : List Window) (i from len : ℕ) (r : Option ℕ) (h : i < length l) (e : first_from from len (drop i l) ≡ r) where
  pub room : max (get_or l i none).opens from + len ≤ (get_or l i none).closes → Some (max (get_or l i none).opens from) ≡ r
  unfolding first_from
  room a = sym (sym e ∙ rw (next l i h, le-leb (max (get_or l i none).opens from + len) (get_or l i none).closes a))

  pub no_room : (get_or l i none).closes < max (get_or l i none).opens from + len → first_from from len (drop (i + 1) l) ≡ r
  unfolding first_from
  no_room a = sym (rw (next l i h, lt-leb (max (get_or l i none).opens from + len) (get_or l i none).closes a)) ∙ e

pub nowhere : (l : List Window) (i from len : ℕ) (r : Option ℕ) → length l ≤ i → first_from from len (drop i l) ≡ r → None ≡ r
unfolding first_from
nowhere l i from len r h e = rw (over l i h) at e
