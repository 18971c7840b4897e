-- The lists of the plain ledger: W sorted by start then number, S, F, and the edits E, one per number.
use Rattle.std.specs.Prelude.{ℕ, zero, suc, Bool, true, false, ◌||◌, cond, List, [], ◌∷◌, ◌++◌, eqb, Float}
use Rattle.std.proofs.Math.Option.{Option, none, some}
use Rattle.event.specs.declared.Event.{Event}
use Rattle.event.specs.declared.Edit.{Edit}
use Rattle.event.specs.declared.StoredEdit.{StoredEdit}
use Rattle.event.specs.Events.{number_of, earlier, edited_by}
use Rattle.floats.specs.Arithmetic.{◌<ᶠ◌, ◌≤ᶠ◌}

-- ---- W: by start, in IEEE 754's totalOrder, then by lower number

unfoldable pub insert : Event → List Event → List Event
insert e [] = e ∷ []
insert e (f ∷ w) = cond (earlier e f) (e ∷ f ∷ w) (f ∷ insert e w)

unfoldable pub insert_all : List Event → List Event → List Event
insert_all [] w = w
insert_all (e ∷ l) w = insert_all l (insert e w)

-- ---- numbers

abbrev pub numbers : List Event → List ℕ
numbers [] = []
numbers (e ∷ l) = number_of e ∷ numbers l

abbrev pub has : ℕ → List Event → Bool
has k [] = false
has k (e ∷ l) = eqb (number_of e) k || has k l

-- the place of a number in a list, or none
abbrev pub later : Option ℕ → Option ℕ
later none = none
later (some i) = some (suc i)

abbrev pub place_of : ℕ → List Event → Option ℕ
place_of k [] = none
place_of k (e ∷ l) = elim (eqb (number_of e) k) [ true ↦ some 0 | false ↦ later (place_of k l) ]

-- ---- E: in order of first storing, an earlier edit replaced in its place

unfoldable pub edit_of : ℕ → List StoredEdit → Option Edit
edit_of k [] = none
edit_of k (x ∷ l) = elim (eqb x.id.0 k) [ true ↦ some x.edit | false ↦ edit_of k l ]

unfoldable pub drop_edit : ℕ → List StoredEdit → List StoredEdit
drop_edit k [] = []
drop_edit k (x ∷ l) = elim (eqb x.id.0 k) [ true ↦ l | false ↦ x ∷ drop_edit k l ]

unfoldable pub store_edit : ℕ → Edit → List StoredEdit → List StoredEdit
store_edit k d [] = record { id = record { 0 = k }; edit = d } ∷ []
store_edit k d (x ∷ l) = elim (eqb x.id.0 k) [ true ↦ record { id = record { 0 = k }; edit = d } ∷ l | false ↦ x ∷ store_edit k d l ]

-- the event with its stored edit, if there is one
abbrev pub with_edit : Option Edit → Event → Event
with_edit none e = e
with_edit (some d) e = edited_by d e

-- the event of number k in a list, edited
abbrev pub edit_in : ℕ → Edit → List Event → List Event
edit_in k d [] = []
edit_in k d (e ∷ l) = elim (eqb (number_of e) k) [ true ↦ edited_by d e ∷ l | false ↦ e ∷ edit_in k d l ]

-- ---- While W's first start < θ it moves to S's end, taking and removing its edit.

pub record Started : Type 0 where
  pub waiting : List Event
  pub sounding : List Event
  pub edits : List StoredEdit

unfoldable pub start : (θ : Float) → (waiting sounding : List Event) → List StoredEdit → Started
start θ [] s x = record { waiting = []; sounding = s; edits = x }
start θ (e ∷ w) s x =
    elim (e.start_time <ᶠ θ) [
      | true ↦ start θ w (s ++ (with_edit (edit_of (number_of e) x) e ∷ [])) (drop_edit (number_of e) x)
      | false ↦ record { waiting = e ∷ w; sounding = s; edits = x }
    ]

-- ---- i = 0: if end ≤ t + 0.5 × d, S's last fills place i and the event goes to F's end; else it sounds and i grows.

-- a list with its last moved to the front: what stands from place i on, once S's last fills place i
abbrev pub last_of : Event → List Event → Event
last_of e [] = e
last_of e (f ∷ l) = last_of f l

abbrev pub but_last : Event → List Event → List Event
but_last e [] = []
but_last e (f ∷ l) = e ∷ but_last f l

abbrev pub last_first : List Event → List Event
last_first [] = []
last_first (e ∷ l) = last_of e l ∷ but_last e l

pub record Swept : Type 0 where
  pub sounding : List Event
  pub finished : List Event

-- S from place i on, of at most k events, where `limit` is t + 0.5 × d: what sounds, and what finishes, each in order. Which events finish does not depend on what is heard.
unfoldable pub sweep : (k : ℕ) → (limit : Float) → List Event → Swept
sweep zero limit s = record { sounding = []; finished = [] }
sweep (suc k) limit [] = record { sounding = []; finished = [] }
sweep (suc k) limit (e ∷ s) =
    elim (e.end_time ≤ᶠ limit) [
      | true ↦ (let r = sweep k limit (last_first s) in record { sounding = r.sounding; finished = e ∷ r.finished })
      | false ↦ (let r = sweep k limit s in record { sounding = e ∷ r.sounding; finished = r.finished })
    ]
