-- W, the ledger's sorted list of waiting events: what its `insert` keeps. Assumes nothing.
use Rattle.std.specs.Prelude.{Bool, true, false, cond, ◌≡◌, refl, ◌≢◌, ℕ}
use Rattle.std.proofs.Math.Bool.{Bool-set}
use Rattle.std.proofs.Common.{ap, ◌∙◌, ⊎_elim}
use Rattle.std.proofs.Math.Logic.{∥∥₁_elim}
use mathlib.Core.List.Memᴰ
use mathlib.Core.List.Perm
use mathlib.Core.List.{List, [], ◌∷◌, ◌++◌, Memᴰ, Perm}
use Rattle.floats.specs.Sooner.{sooner_asymmetric, sooner_transitive, not-sooner_transitive, sooner-total}
use Rattle.event.specs.declared.Event.{Event}
use Rattle.event.specs.Events.{earlier, number_of}
use Rattle.event.specs.StartsFirst.{start_bits, Starts, numbered}
use Rattle.event.proofs.StartsFirst.{numbers-late}
use Rattle.ledger.specs.Lists.{insert}
use Rattle.ledger.specs.Sorted.{Sorted}
use Rattle.ready.specs.HeapOrder.{Order}

-- ---- the order of two events

-- it is an order that a heap can go by
pub earlier_order : Order earlier
earlier_order = record {
  asym = λ a b. sooner_asymmetric a.start_time (number_of a) b.start_time (number_of b);
  on = λ a b c. not-sooner_transitive a.start_time (number_of a) b.start_time (number_of b) c.start_time (number_of c);
}

-- ---- the sorted list

pub insert_perm : (e : Event) (w : List Event) → Perm (insert e w) (e ∷ w)
unfolding insert
insert_perm e [] = Perm.refl (e ∷ [])
insert_perm e (f ∷ w) = go (insert_perm e w) (earlier e f)
  where
    go : Perm (insert e w) (e ∷ w) → (b : Bool) → Perm (cond b (e ∷ f ∷ w) (f ∷ insert e w)) (e ∷ f ∷ w)
    go ih true = Perm.refl (e ∷ f ∷ w)
    go ih false = Perm.trans (Perm.cons f ih) (Perm.swap e f w)

-- e goes to one place in w, whatever its number
abbrev pub OnePlace : Event → List Event → Type 0
OnePlace e w = (a : List Event) × (b : List Event) × (w ≡ a ++ b) × ((k : ℕ) → insert (numbered k e) w ≡ a ++ (numbered k e ∷ b))

-- Document 02, Paper 2: so it is where its start has other bits than the starts of all that wait
pub one_place : (e : Event) (w : List Event) → Starts e → ((f : Event) → Memᴰ f w → Starts f × (start_bits e ≢ start_bits f)) → OnePlace e w
unfolding insert
one_place e [] s h = ([], [], refl, λ k. refl)
one_place e (f ∷ w) s h = go (earlier e f) refl (one_place e w s (λ g m. h g (Memᴰ.tail m)))
  where
    late : (k : ℕ) → earlier (numbered k e) f ≡ earlier e f
    late k = let r = h f (Memᴰ.head refl) in numbers-late e f k (number_of f) s r.0 r.1

    step : (k : ℕ) (t : Bool) → earlier e f ≡ t → insert (numbered k e) (f ∷ w) ≡ cond t (numbered k e ∷ f ∷ w) (f ∷ insert (numbered k e) w)
    step k t q = ap (λ (t : Bool). cond t (numbered k e ∷ f ∷ w) (f ∷ insert (numbered k e) w)) (late k ∙ q)

    go : (t : Bool) → earlier e f ≡ t → OnePlace e w → OnePlace e (f ∷ w)
    go true q r = ([], f ∷ w, refl, λ k. step k true q)
    go false q r = (f ∷ r.0, r.1, ap (λ (l : List Event). f ∷ l) r.2, λ k. step k false q ∙ ap (λ (l : List Event). f ∷ l) (r.3 k))

-- an event with a number of its own leaves the list sorted
pub insert_sorted : (e : Event) (w : List Event) → ((f : Event) → Memᴰ f w → number_of e ≡ number_of f → ⊥) → Sorted w → Sorted (insert e w)
unfolding insert
insert_sorted e [] new s = (λ y m. absurd (Memᴰ.not-nil m), tt)
insert_sorted e (f ∷ w) new s = go (insert_sorted e w (λ y m. new y (Memᴰ.tail m)) s.1) (earlier e f) refl
  where
    go : Sorted (insert e w) → (b : Bool) → earlier e f ≡ b → Sorted (cond b (e ∷ f ∷ w) (f ∷ insert e w))
    go ih true q =
        (λ y m. ⊎_elim (λ k. rw k q) (λ k. sooner_transitive e.start_time (number_of e) f.start_time (number_of f) y.start_time (number_of y) q (s.0 y k)) (Memᴰ.cases_cons m), s)
    go ih false q = (
      λ y m. ∥∥₁_elim (Perm.subset (insert_perm e w) y ∣ m ∣₁) (Bool-set _ _)
          (λ d. ⊎_elim (λ k. rw k (sooner-total e.start_time (number_of e) f.start_time (number_of f) (new f (Memᴰ.head refl)) q)) (λ k. s.0 y k) (Memᴰ.cases_cons d)),
      ih,
    )
