-- The ledger's searches by number in a list of events: a place is found exactly where the number stands. Assumes nothing.
use Rattle.std.specs.Prelude.{◌≡◌, ℕ, zero, suc, ◌<◌, Bool, true, false, ◌||◌, List, [], ◌∷◌, ◌++◌, length, ◌==◌, ◌≢◌, slice_index_or, slice_set, refl}
use Rattle.std.proofs.Common.{true≢false, sym, ap, ◌∙◌, arith, eqb-true, eq-eqb, ne_eqb}
use Rattle.std.proofs.Math.Option.{Option, none, some}
use Rattle.std.proofs.lemmas.Bool.{eqb-false}
use Rattle.event.specs.declared.Event.{Event}
use Rattle.event.specs.declared.Edit.{Edit}
use Rattle.event.specs.Events.{number_of, edited_by}
use Rattle.event.specs.Blank.{blank}
use Rattle.ledger.specs.Lists.{has, later, place_of, edit_in, last_of, but_last, last_first}

-- ---- a place by its number

some_later : (o : Option ℕ) (i : ℕ) → later o ≡ some (suc i) → o ≡ some i
some_later none i h = absurd (let z : ◌≡◌ {A = ℕ} 0 1 = cc in omega arith)
some_later (some j) i h = cc

not_first : (o : Option ℕ) → later o ≢ some 0
not_first none h = let z : ◌≡◌ {A = ℕ} 0 1 = cc in omega arith
not_first (some j) h = let z : suc j ≡ 0 = cc in omega arith

none-later : (o : Option ℕ) → later o ≡ none → o ≡ none
none-later none h = refl
none-later (some j) h = absurd (let z : ◌≡◌ {A = ℕ} 0 1 = cc in omega arith)

pub place-stands : (k : ℕ) (l : List Event) (i : ℕ) → place_of k l ≡ some i → (i < length l) × (number_of (slice_index_or l i blank) ≡ k)
place-stands k [] i h = absurd (let z : ◌≡◌ {A = ℕ} 0 1 = cc in omega arith)
place-stands k (e ∷ l) zero h = (omega arith, go (number_of e == k) refl h)
  where
    go : (b : Bool) → (number_of e == k) ≡ b → ◌≡◌ {A = Option ℕ} (elim b [ true ↦ some 0 | false ↦ later (place_of k l) ]) (some 0) → number_of e ≡ k
    go true q g = eqb-true (number_of e) k q
    go false q g = absurd (not_first (place_of k l) g)
place-stands k (e ∷ l) (suc i) h = go (number_of e == k) (place-stands k l i) h
  where
    go : (b : Bool) → (place_of k l ≡ some i → (i < length l) × (number_of (slice_index_or l i blank) ≡ k)) → ◌≡◌ {A = Option ℕ} (elim b [ true ↦ some 0 | false ↦ later (place_of k l) ]) (some (suc i))
        → (suc i < suc (length l)) × (number_of (slice_index_or l i blank) ≡ k)
    go true ih g = absurd (let z : 0 ≡ suc i = cc in omega arith)
    go false ih g = let r = ih (some_later (place_of k l) i g) in (omega (arith, r.0), r.1)

pub place_none : (k : ℕ) (l : List Event) → place_of k l ≡ none → has k l ≡ false
place_none k [] h = refl
place_none k (e ∷ l) h = go (number_of e == k) (place_none k l) h
  where
    go : (b : Bool) → (place_of k l ≡ none → has k l ≡ false) → ◌≡◌ {A = Option ℕ} (elim b [ true ↦ some 0 | false ↦ later (place_of k l) ]) none → (b || has k l) ≡ false
    go true ih g = absurd (let z : ◌≡◌ {A = ℕ} 0 1 = cc in omega arith)
    go false ih g = ih (none-later (place_of k l) g)

pub none-place : (k : ℕ) (l : List Event) → has k l ≡ false → place_of k l ≡ none
none-place k [] h = refl
none-place k (e ∷ l) h = go (number_of e == k) (none-place k l) h
  where
    go : (b : Bool) → (has k l ≡ false → place_of k l ≡ none) → (b || has k l) ≡ false → ◌≡◌ {A = Option ℕ} (elim b [ true ↦ some 0 | false ↦ later (place_of k l) ]) none
    go true ih g = absurd (true≢false g)
    go false ih g = ap later (ih g)

-- ---- no number stands twice

abbrev pub Distinct : List Event → Type 0
Distinct [] = Unit {0}
Distinct (e ∷ l) = (has (number_of e) l ≡ false) × Distinct l

has-at : (l : List Event) (i : ℕ) → i < length l → has (number_of (slice_index_or l i blank)) l ≡ true
has-at [] i h = absurd (omega arith)
has-at (e ∷ l) zero h = ap (λ (b : Bool). b || has (number_of e) l) (eq-eqb (number_of e) (number_of e) refl)
has-at (e ∷ l) (suc i) h = go (number_of e == number_of (slice_index_or l i blank)) (has-at l i (omega arith))
  where
    go : (b : Bool) → has (number_of (slice_index_or l i blank)) l ≡ true → (b || has (number_of (slice_index_or l i blank)) l) ≡ true
    go true q = refl
    go false q = q

-- where no number stands twice, the number at place i is found there
pub distinct_place : (l : List Event) → Distinct l → (i : ℕ) → i < length l → place_of (number_of (slice_index_or l i blank)) l ≡ some i
distinct_place [] d i h = absurd (omega arith)
distinct_place (e ∷ l) d zero h = ap (λ (b : Bool). elim b [ true ↦ some 0 | false ↦ later (place_of (number_of e) l) ]) (eq-eqb (number_of e) (number_of e) refl)
distinct_place (e ∷ l) d (suc i) h = go (number_of e == k) refl (distinct_place l d.1 i (omega arith))
  where
    k : ℕ
    k = number_of (slice_index_or l i blank)

    go : (b : Bool) → (number_of e == k) ≡ b → place_of k l ≡ some i → ◌≡◌ {A = Option ℕ} (elim b [ true ↦ some 0 | false ↦ later (place_of k l) ]) (some (suc i))
    go true q ih = absurd (true≢false (sym (has-at l i (omega arith)) ∙ ap (λ (n : ℕ). has n l) (sym (eqb-true (number_of e) k q)) ∙ d.0))
    go false q ih = ap later ih

or_swap : (a b c : Bool) → (a || (b || c)) ≡ (b || (a || c))
or_swap true true c = refl
or_swap true false c = refl
or_swap false b c = refl

or_parts : (a b : Bool) → (a || b) ≡ false → (a ≡ false) × (b ≡ false)
or_parts true b h = absurd (true≢false h)
or_parts false b h = (refl, h)

other_way : (a b : ℕ) → (a == b) ≡ false → (b == a) ≡ false
other_way a b h = ne_eqb b a (λ q. eqb-false a b h (sym q))

has-append : (k : ℕ) (a b : List Event) → has k (a ++ b) ≡ (has k a || has k b)
has-append k [] b = refl
has-append k (e ∷ a) b = go (number_of e == k) (has-append k a b)
  where
    go : (t : Bool) → has k (a ++ b) ≡ (has k a || has k b) → (t || has k (a ++ b)) ≡ ((t || has k a) || has k b)
    go true q = refl
    go false q = q

has_last : (k : ℕ) (e : Event) (l : List Event) → (number_of (last_of e l) == k || has k (but_last e l)) ≡ (number_of e == k || has k l)
has_last k e [] = refl
has_last k e (f ∷ l) = or_swap (number_of (last_of f l) == k) (number_of e == k) (has k (but_last f l)) ∙ ap (λ (b : Bool). (number_of e == k) || b) (has_last k f l)

has-last_first : (k : ℕ) (l : List Event) → has k (last_first l) ≡ has k l
has-last_first k [] = refl
has-last_first k (e ∷ l) = has_last k e l

distinct_last : (e : Event) (l : List Event) → Distinct (e ∷ l) → Distinct (last_of e l ∷ but_last e l)
distinct_last e [] d = (refl, tt)
distinct_last e (f ∷ l) d =
    let ih = distinct_last f l d.1 in
    let r = or_parts (number_of (last_of f l) == number_of e) (has (number_of e) (but_last f l)) (has_last (number_of e) f l ∙ d.0) in
    (ap (λ (b : Bool). b || has (number_of (last_of f l)) (but_last f l)) (other_way (number_of (last_of f l)) (number_of e) r.0) ∙ ih.0, (r.1, ih.1))

-- ---- what the operations of the sounding list keep

-- an edit keeps the numbers
has-edit : (n k : ℕ) (d : Edit) (l : List Event) → has n (edit_in k d l) ≡ has n l
has-edit n k d [] = refl
has-edit n k d (e ∷ l) = go (number_of e == k) (has-edit n k d l)
  where
    go : (b : Bool) → has n (edit_in k d l) ≡ has n l → has n (elim b [ true ↦ edited_by d e ∷ l | false ↦ e ∷ edit_in k d l ]) ≡ (number_of e == n || has n l)
    go true q = refl
    go false q = ap (λ (b : Bool). (number_of e == n) || b) q

pub distinct_edit : (k : ℕ) (d : Edit) (l : List Event) → Distinct l → Distinct (edit_in k d l)
distinct_edit k d [] s = tt
distinct_edit k d (e ∷ l) s = go (number_of e == k) (distinct_edit k d l s.1)
  where
    go : (b : Bool) → Distinct (edit_in k d l) → Distinct (elim b [ true ↦ edited_by d e ∷ l | false ↦ e ∷ edit_in k d l ])
    go true ih = s
    go false ih = (has-edit (number_of e) k d l ∙ s.0, ih)

-- the edited event stands at its place
pub edit-place : (k : ℕ) (d : Edit) (l : List Event) (i : ℕ) → place_of k l ≡ some i → edit_in k d l ≡ slice_set l i (edited_by d (slice_index_or l i blank))
edit-place k d [] i h = refl
edit-place k d (e ∷ l) zero h = go (number_of e == k) h
  where
    go : (b : Bool) → ◌≡◌ {A = Option ℕ} (elim b [ true ↦ some 0 | false ↦ later (place_of k l) ]) (some 0) → ◌≡◌ {A = List Event} (elim b [ true ↦ edited_by d e ∷ l | false ↦ e ∷ edit_in k d l ]) (edited_by d e ∷ l)
    go true g = refl
    go false g = absurd (not_first (place_of k l) g)
edit-place k d (e ∷ l) (suc i) h = go (number_of e == k) (edit-place k d l i) h
  where
    go : (b : Bool) → (place_of k l ≡ some i → edit_in k d l ≡ slice_set l i (edited_by d (slice_index_or l i blank))) → ◌≡◌ {A = Option ℕ} (elim b [ true ↦ some 0 | false ↦ later (place_of k l) ]) (some (suc i))
        → ◌≡◌ {A = List Event} (elim b [ true ↦ edited_by d e ∷ l | false ↦ e ∷ edit_in k d l ]) (e ∷ slice_set l i (edited_by d (slice_index_or l i blank)))
    go true ih g = absurd (let z : 0 ≡ suc i = cc in omega arith)
    go false ih g = ap (λ (x : List Event). e ∷ x) (ih (some_later (place_of k l) i g))
