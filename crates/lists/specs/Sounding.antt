-- The sounding list with its index, as the engine keeps them: two arrays and one count. Each operation on the arrays is that of the ledger's S, and the index gives a number's place in S or none. Assumes nothing.
use Rattle.std.specs.Prelude.{◌≡◌, ℕ, zero, suc, ◌+◌, ◌-◌, ◌<◌, Bool, true, false, cond, List, [], ◌∷◌, ◌++◌, map, length, get_or, take, set, ◌==◌, slice_index_or, slice_set, refl}
use Rattle.std.proofs.Common.{sym, ◌∙◌, arith, length-append}
use Rattle.std.proofs.Math.Path.{ap}
use Rattle.std.proofs.lemmas.List.{map-append, length-map}
use Rattle.std.proofs.Math.Option.{Option, none, some}
use Rattle.std.proofs.Math.ListN.{get_or-map}
use Rattle.event.specs.declared.Event.{Event}
use Rattle.event.specs.declared.EventId.{EventId}
use Rattle.event.specs.declared.Edit.{Edit}
use Rattle.event.specs.Events.{number_of, edited_by}
use Rattle.event.specs.Blank.{blank}
use Rattle.ledger.specs.Lists.{later, place_of, edit_in, last_of, but_last, last_first}
use Rattle.std.specs.declared.option.Option.TheVariants.{Some}
use Rattle.lists.specs.Index.{found_id, is_id, no_id}
use Rattle.lists.specs.PlaceFound.{place_found}
use Rattle.lists.specs.Holds.{Holds, holds_to, holds-length, holds-append, holds-set, holds_at, holds-swap, holds-seek, place, swap_out}
use Rattle.lists.specs.Numbered.{place-stands, edit-place}

abbrev pub id_of : Event → EventId
id_of e = e.id

-- the first n events are l, and the first n numbers are theirs
abbrev pub Listed : List Event → List EventId → ℕ → List Event → Type 0
Listed xs ids n l = Holds xs n l × Holds ids n (map id_of l)

-- ---- what the index gives

abbrev raised : ℕ → Option ℕ → Option ℕ
raised b none = none
raised b (some i) = some (b + i)

raised-later : (b : ℕ) (o : Option ℕ) → raised (suc b) o ≡ raised b (later o)
raised-later b none = refl
raised-later b (some i) = let q : suc b + i ≡ b + suc i = omega arith in ap (λ (n : ℕ). some n) q

raised-none : (o : Option ℕ) → raised 0 o ≡ o
raised-none none = refl
raised-none (some i) = let q : 0 + i ≡ i = omega arith in ap (λ (n : ℕ). some n) q

place-from : (k : EventId) (l : List Event) (b : ℕ) → place_found (place (is_id k) (map id_of l) b) ≡ raised b (place_of k.0 l)
unfolding place
place-from k [] b = refl
place-from k (e ∷ l) b = go (number_of e == k.0) (place-from k l (suc b))
  where
    go : (t : Bool) → place_found (place (is_id k) (map id_of l) (suc b)) ≡ raised (suc b) (place_of k.0 l)
        → place_found (cond t (Some b) (place (is_id k) (map id_of l) (suc b))) ≡ raised b (elim t [ true ↦ some 0 | false ↦ later (place_of k.0 l) ])
    go true ih = let q : b ≡ b + 0 = omega arith in ap (λ (n : ℕ). some n) q
    go false ih = ih ∙ raised-later b (place_of k.0 l)

module _ (k : EventId) {xs : List Event} {ids : List EventId} {n : ℕ} {l : List Event} where
  pub index_find : Listed xs ids n l → place_found (found_id (record { ids = ids; len = n }) k) ≡ place_of k.0 l
  unfolding found_id
  index_find h = ap place_found (holds-seek no_id (is_id k) h.1) ∙ place-from k l 0 ∙ raised-none (place_of k.0 l)

-- ---- the operations

pub listed-append : (e : Event) {xs : List Event} {ids : List EventId} {n : ℕ} {l : List Event} → n < 256 → Listed xs ids n l
    → Listed (slice_set xs n e) (slice_set ids n e.id) (n + 1) (l ++ (e ∷ []))
listed-append e {l = l} p h = (holds-append e p h.0, holds_to (sym (map-append id_of l (e ∷ []))) (holds-append e.id p h.1))

-- a store that keeps the number
ids_stay : (l : List Event) (i : ℕ) (v : Event) → v.id ≡ (get_or l i blank).id → map id_of (slice_set l i v) ≡ map id_of l
ids_stay [] i v h = refl
ids_stay (e ∷ l) zero v h = ap (λ (k : EventId). k ∷ map id_of l) h
ids_stay (e ∷ l) (suc i) v h = ap (λ (y : List EventId). id_of e ∷ y) (ids_stay l i v h)

pub listed-set : (i : ℕ) (v : Event) {xs : List Event} {ids : List EventId} {n : ℕ} {l : List Event} → i < n → v.id ≡ (get_or l i blank).id → Listed xs ids n l
    → Listed (slice_set xs i v) ids n (slice_set l i v)
listed-set i v {l = l} p q h = (holds-set i v p h.0, holds_to (sym (ids_stay l i v q)) h.1)

-- the number is found, and its event takes the edit
pub listed-edit : (k : EventId) (d : Edit) (i : ℕ) {xs : List Event} {ids : List EventId} {n : ℕ} {l : List Event} → found_id (record { ids = ids; len = n }) k ≡ Some i → Listed xs ids n l
    → (i < n) × Listed (slice_set xs i (edited_by d (slice_index_or xs i blank))) ids n (edit_in k.0 d l)
listed-edit k d i {xs} {ids} {n} {l} q h =
    let at : place_of k.0 l ≡ some i = sym (index_find k h) ∙ ap place_found q in
    let inside : i < n = omega (arith, (place-stands k.0 l i at).0, holds-length h.0) in
    let there : get_or xs i blank ≡ get_or l i blank = holds_at blank i inside h.0 in
    let new : set l i (edited_by d (slice_index_or xs i blank)) ≡ edit_in k.0 d l = ap (λ (e : Event). set l i (edited_by d e)) there ∙ sym (edit-place k.0 d l i at) in
    let r = listed-set i (edited_by d (slice_index_or xs i blank)) inside (ap id_of there) h in
    (inside, (holds_to new r.0, holds_to (ap (map id_of) new) r.1))

-- ---- the last fills the place of one that leaves

last-at : (z e : Event) (l : List Event) → slice_index_or (e ∷ l) (length l) z ≡ last_of e l
last-at z e [] = refl
last-at z e (f ∷ l) = last-at z f l

but_last_lem : (e : Event) (l : List Event) → take (length l) (e ∷ l) ≡ but_last e l
but_last_lem e [] = refl
but_last_lem e (f ∷ l) = ap (λ (y : List Event). e ∷ y) (but_last_lem f l)

less : (n : ℕ) → suc n - 1 ≡ n
less n = omega arith

first_part : (z e : Event) (q : List Event) → take (length q) (slice_set (e ∷ q) 0 (slice_index_or (e ∷ q) (length q) z)) ≡ last_first q
first_part z e [] = refl
first_part z e (g ∷ q) = ap (λ (v : Event). v ∷ take (length q) (g ∷ q)) (last-at z g q) ∙ ap (λ (y : List Event). last_of g q ∷ y) (but_last_lem g q)

swap-first : (z e : Event) (q : List Event) → swap_out z (e ∷ q) 0 ≡ last_first q
swap-first z e q = ap (λ (m : ℕ). take m (slice_set (e ∷ q) 0 (slice_index_or (e ∷ q) m z))) (less (length q)) ∙ first_part z e q

swap-next : (z p : Event) (l : List Event) (i : ℕ) → 0 < length l → swap_out z (p ∷ l) (suc i) ≡ p ∷ swap_out z l i
swap-next z p [] i h = absurd (omega arith)
swap-next z p (y ∷ l) i h =
    ap (λ (m : ℕ). take m (slice_set (p ∷ y ∷ l) (suc i) (slice_index_or (p ∷ y ∷ l) m z))) (less (suc (length l)))
    ∙ sym (ap (λ (m : ℕ). p ∷ take m (slice_set (y ∷ l) i (slice_index_or (y ∷ l) m z))) (less (length l)))

swap_at : (z : Event) (p : List Event) (e : Event) (q : List Event) → swap_out z (p ++ (e ∷ q)) (length p) ≡ p ++ last_first q
swap_at z [] e q = swap-first z e q
swap_at z (y ∷ p) e q = swap-next z y (p ++ (e ∷ q)) (length p) (rw length-append (omega arith)) ∙ ap (λ (l : List Event). y ∷ l) (swap_at z p e q)

module _ {A B : Type 0} (f : A → B) where
  map-take : (n : ℕ) (l : List A) → map f (take n l) ≡ take n (map f l)
  map-take zero l = refl
  map-take (suc n) [] = refl
  map-take (suc n) (x ∷ l) = ap (λ (y : List B). f x ∷ y) (map-take n l)

  map-set : (l : List A) (i : ℕ) (v : A) → map f (slice_set l i v) ≡ slice_set (map f l) i (f v)
  map-set [] i v = refl
  map-set (x ∷ l) zero v = refl
  map-set (x ∷ l) (suc i) v = ap (λ (y : List B). f x ∷ y) (map-set l i v)

  map-swap : (z : A) (l : List A) (i : ℕ) → swap_out (f z) (map f l) i ≡ map f (swap_out z l i)
  map-swap z l i = rw (length-map l f, get_or-map f l (length l - 1) z, ← map-set, ← map-take)

-- place i is that of e: the last event and its number move there
pub listed-swap : (p : List Event) (e : Event) (q : List Event) {xs : List Event} {ids : List EventId} {n : ℕ} → Listed xs ids n (p ++ (e ∷ q))
    → Listed (slice_set xs (length p) (slice_index_or xs (n - 1) blank)) (slice_set ids (length p) (slice_index_or ids (n - 1) no_id)) (n - 1) (p ++ last_first q)
listed-swap p e q {xs} {ids} {n} h =
    let i : length p < n = omega (arith, holds-length h.0, length-append p (e ∷ q)) in (
      holds_to (swap_at blank p e q) (holds-swap blank (length p) i h.0),
      holds_to (map-swap id_of blank (p ++ (e ∷ q)) (length p) ∙ ap (map id_of) (swap_at blank p e q)) (holds-swap no_id (length p) i h.1),
    )
