-- What events are sorted by: start and number, as a pair. Sorted insertion of events, as the ledger has it, is sorted insertion of their keys. Assumes nothing.
use Rattle.std.specs.Prelude.{ℕ, suc, Bool, true, false, cond, ◌≡◌, refl, Float, length}
use Rattle.std.proofs.Common.{true≢false, sym, ap, ◌∙◌, arith}
use mathlib.Core.List.{List, [], ◌∷◌, map, map-map, Perm}
use Rattle.std.proofs.Math.Decide.{ℕ_discrete}
use Rattle.std.specs.Float.{nan}
use Rattle.floats.specs.Sooner.{sooner_asymmetric, not-sooner_transitive, sooner-total}
use Rattle.floats.specs.Floats.{sooner}
use Rattle.event.specs.declared.Event.{Event}
use Rattle.event.specs.Events.{number_of, earlier}
use Rattle.ledger.specs.Lists.{insert, insert_all, numbers}
use Rattle.ready.specs.HeapOrder.{Order}
use Rattle.ready.specs.Sorted.{earlier_order}
use Rattle.ledger.specs.Sorted.{Sorted}
use Rattle.overlap.specs.Insertion.{insert_by, inserts_by, length_inserts_by, Ordered, ordered-stays, numbers_perm}

abbrev pub Key : Type 0
Key = Float × ℕ

abbrev pub number_of_key : Key → ℕ
number_of_key k = k.1

abbrev pub key_of : Event → Key
key_of e = (e.start_time, number_of e)

-- the order of W
abbrev pub key_less : Key → Key → Bool
key_less a b = sooner a.0 a.1 b.0 b.1

-- what the logic reads past the end of a list
abbrev pub no_key : Key
no_key = (nan, 0)

pub key_order : Order key_less
key_order = record {
  asym = λ a b. sooner_asymmetric a.0 a.1 b.0 b.1;
  on = λ a b c. not-sooner_transitive a.0 a.1 b.0 b.1 c.0 c.1;
}

key-tied : (a b : Key) → key_less a b ≡ false → key_less b a ≡ false → number_of_key a ≡ number_of_key b
key-tied a b h k = go (ℕ_discrete a.1 b.1)
  where
    go : Dec (a.1 ≡ b.1) → a.1 ≡ b.1
    go (yes q) = q
    go (no n) = absurd (true≢false (sym (sooner-total a.0 a.1 b.0 b.1 n h) ∙ k))

-- ---- events

numbers-is : (l : List Event) → numbers l ≡ map number_of l
numbers-is [] = refl
numbers-is (e ∷ l) = ap (λ (x : List ℕ). number_of e ∷ x) (numbers-is l)

-- the ledger's insertion is that by its order
insert-is : (e : Event) (w : List Event) → insert e w ≡ insert_by earlier e w
unfolding insert insert_by
insert-is e [] = refl
insert-is e (f ∷ w) = ap (λ (x : List Event). cond (earlier e f) (e ∷ f ∷ w) (f ∷ x)) (insert-is e w)

insert_all-is : (l w : List Event) → insert_all l w ≡ inserts_by earlier l w
unfolding insert_all inserts_by
insert_all-is [] w = refl
insert_all-is (e ∷ l) w = insert_all-is l (insert e w) ∙ ap (λ (x : List Event). inserts_by earlier l x) (insert-is e w)

-- the numbers of events in order do not depend on the events' arrangement
pub sorted_perm : {l m : List Event} → Perm l m → numbers (insert_all l []) ≡ numbers (insert_all m [])
sorted_perm {l} {m} d =
    numbers-is (insert_all l []) ∙ ap (λ (x : List Event). map number_of x) (insert_all-is l []) ∙ numbers_perm earlier earlier_order number_of (λ a b. key-tied (key_of a) (key_of b)) d
    ∙ sym (numbers-is (insert_all m []) ∙ ap (λ (x : List Event). map number_of x) (insert_all-is m []))

-- what is in order stays as it is
pub sorted_stays : (l : List Event) → Sorted l → insert_all l [] ≡ l
sorted_stays [] s = insert_all-is [] [] ∙ nothing
  where
    nothing : inserts_by earlier [] [] ≡ []
    nothing = ordered-stays earlier [] tt
sorted_stays (e ∷ l) s = insert_all-is (e ∷ l) [] ∙ ordered-stays earlier (e ∷ l) (loosely (e ∷ l) s)
  where
    loosely : (l : List Event) → Sorted l → Ordered earlier l
    loosely [] s = tt
    loosely (e ∷ l) s = ((λ f m. sooner_asymmetric e.start_time (number_of e) f.start_time (number_of f) (s.0 f m)), loosely l s.1)

-- ---- events and their keys

map_insert_by : (e : Event) (w : List Event) → map key_of (insert_by earlier e w) ≡ insert_by key_less (key_of e) (map key_of w)
unfolding insert_by
map_insert_by e [] = refl
map_insert_by e (f ∷ w) = go (earlier e f) (map_insert_by e w)
  where
    go : (b : Bool) → map key_of (insert_by earlier e w) ≡ insert_by key_less (key_of e) (map key_of w)
        → map key_of (cond b (e ∷ f ∷ w) (f ∷ insert_by earlier e w)) ≡ cond b (key_of e ∷ key_of f ∷ map key_of w) (key_of f ∷ insert_by key_less (key_of e) (map key_of w))
    go true ih = refl
    go false ih = ap (λ (x : List Key). key_of f ∷ x) ih

map_inserts_by : (l w : List Event) → map key_of (inserts_by earlier l w) ≡ inserts_by key_less (map key_of l) (map key_of w)
unfolding inserts_by
map_inserts_by [] w = refl
map_inserts_by (e ∷ l) w = map_inserts_by l (insert_by earlier e w) ∙ ap (λ (x : List Key). inserts_by key_less (map key_of l) x) (map_insert_by e w)

-- the numbers of keys in order
abbrev pub keys_in_order : List Key → List ℕ
keys_in_order l = map number_of_key (inserts_by key_less l [])

pub sorted_keys : (l : List Event) → numbers (insert_all l []) ≡ keys_in_order (map key_of l)
sorted_keys l =
    numbers-is (insert_all l []) ∙ ap (λ (x : List Event). map number_of x) (insert_all-is l []) ∙ sym (map-map number_of_key key_of (inserts_by earlier l []))
    ∙ ap (λ (x : List Key). map number_of_key x) (map_inserts_by l [])

pub keys_perm : {l m : List Key} → Perm l m → keys_in_order l ≡ keys_in_order m
keys_perm d = numbers_perm key_less key_order number_of_key key-tied d

pub numbers-length : (l : List Event) → length (numbers l) ≡ length l
numbers-length [] = refl
numbers-length (e ∷ l) = ap suc (numbers-length l)

pub sorted_length : (l : List Event) → length (insert_all l []) ≡ length l
sorted_length l = ap length (insert_all-is l []) ∙ length_inserts_by earlier l [] ∙ omega arith
