-- W is sorted by start, then by number, and none of W starts before the threshold: what the operations on W keep of it. Assumes nothing.
use Rattle.std.specs.Prelude.{ℕ, ◌≤◌, ◌≡◌, refl, Bool, true, false, not, ◌&&◌, ◌||◌, cond, T, ltb, eqb, Float}
use Rattle.std.proofs.Common.{ap, ◌∙◌, ⊎_elim, arith, T_not}
use mathlib.Core.List.Memᴰ
use mathlib.Core.List.{List, [], ◌∷◌, ◌++◌, map, Memᴰ}
use Rattle.std.proofs.Math.Dec.{not_T}
use Rattle.std.specs.Float.Ieee.{lt, eq, is_nan}
use Rattle.std.specs.Float.Ieee.Fits.{eq→eqb}
use Rattle.std.specs.Float.Ieee.Bits.{is_false}
use Rattle.floats.specs.Floats.{total_less, negative, sooner}
use Rattle.floats.specs.Sooner.{sooner_asymmetric, sooner-total, not-sooner_transitive}
use Rattle.event.specs.declared.Event.{Event}
use Rattle.event.specs.declared.StoredEdit.{StoredEdit}
use Rattle.event.specs.Events.{number_of, earlier, rewound}
use Rattle.floats.specs.Arithmetic.{ -∞}
use Rattle.ledger.specs.FloatOrder.{lt_through, not-before-all}
use Rattle.ledger.specs.Lists.{insert, insert_all, start, with_edit, edit_of, drop_edit}
use Rattle.ledger.specs.Sums.{event_sum}
use Rattle.ledger.proofs.Sums.{weight_in}
use Rattle.ledger.specs.Conservation.{by_number}
use Rattle.ledger.specs.Partition.{is}
use Rattle.ledger.specs.Sorted.{Sorted, Before, WeaklySorted, one_if, early, nan_start}

before-insert : (e f : Event) (m : List Event) → earlier e f ≡ false → Before f m → Before f (insert e m)
unfolding insert
before-insert e f [] h b = h
before-insert e f (g ∷ m) h b = go (earlier e g) refl
  where
    go : (c : Bool) → earlier e g ≡ c → Before f (insert e (g ∷ m))
    go true q = rw (q, insert) h
    go false q = rw (q, insert) b

pub weakly_sorted-insert : (e : Event) (l : List Event) → WeaklySorted l → WeaklySorted (insert e l)
unfolding insert
weakly_sorted-insert e [] s = (tt, tt)
weakly_sorted-insert e (f ∷ l) s = go (earlier e f) refl (weakly_sorted-insert e l s.1)
  where
    go : (c : Bool) → earlier e f ≡ c → WeaklySorted (insert e l) → WeaklySorted (insert e (f ∷ l))
    go true h r = rw (h, insert) (sooner_asymmetric e.start_time (number_of e) f.start_time (number_of f) h, s)
    go false h r = rw (h, insert) (before-insert e f l h s.0, r)

pub weakly_sorted-insert_all : (a l : List Event) → WeaklySorted l → WeaklySorted (insert_all a l)
unfolding insert_all
weakly_sorted-insert_all [] l s = s
weakly_sorted-insert_all (e ∷ a) l s = weakly_sorted-insert_all a (insert e l) (weakly_sorted-insert e l s)

pub weakly_sorted-rewound : (l : List Event) → WeaklySorted l → WeaklySorted (map rewound l)
weakly_sorted-rewound [] s = tt
weakly_sorted-rewound (e ∷ []) s = (tt, tt)
weakly_sorted-rewound (e ∷ (f ∷ l)) s = (s.0, weakly_sorted-rewound (f ∷ l) s.1)

pub weakly_sorted : (l : List Event) → Sorted l → WeaklySorted l
weakly_sorted [] s = tt
weakly_sorted (e ∷ []) s = (tt, tt)
weakly_sorted (e ∷ (f ∷ l)) s = (sooner_asymmetric e.start_time (number_of e) f.start_time (number_of f) (s.0 f (Memᴰ.head refl)), weakly_sorted (f ∷ l) s.1)

after-all : (e : Event) (l : List Event) → WeaklySorted (e ∷ l) → (f : Event) → Memᴰ f l → earlier f e ≡ false
after-all e [] s f m = absurd (Memᴰ.not-nil m)
after-all e (g ∷ l) s f m =
    ⊎_elim (λ k. rw k s.0)
    (λ k. not-sooner_transitive e.start_time (number_of e) g.start_time (number_of g) f.start_time (number_of f) s.0 (after-all g l s.1 f k))
    (Memᴰ.cases_cons m)

is_itself : (k : ℕ) → is k k ≡ 1
is_itself k = go (eqb k k) (let q : k ≡ k = refl in eq→eqb q)
  where
    go : (b : Bool) → T b → ◌≡◌ {A = ℕ} (cond b 1 0) 1
    go true h = refl
    go false h = absurd h

-- a list in which no number stands twice is sorted strictly
pub sorted_of : (l : List Event) → ((k : ℕ) → event_sum (by_number (is k)) l ≤ 1) → WeaklySorted l → Sorted l
sorted_of [] d s = tt
sorted_of (e ∷ l) d s = (
  λ f m. sooner-total f.start_time (number_of f) e.start_time (number_of e)
      (λ p. let q = weight_in (by_number (is (number_of e))) f l m in
      let r : is (number_of e) (number_of f) ≡ 1 = ap (is (number_of e)) p ∙ is_itself (number_of e) in
      omega (arith, d (number_of e), q, r, is_itself (number_of e)))
      (after-all e l s f m),
  sorted_of l (λ k. omega (arith, d k)) s.1,
)

pub one_if_no : (b : Bool) → b ≡ false → one_if b ≡ 0
one_if_no b h = ap one_if h

pub no_one_if : (b : Bool) → one_if b ≤ 0 → b ≡ false
no_one_if true h = absurd (omega arith)
no_one_if false h = refl

-- an event that may stand after e starts no earlier
starts-later : (e f : Event) → earlier f e ≡ false → T (not (lt f.start_time e.start_time))
unfolding sooner total_less
starts-later e f h =
    first (lt F E) (eq F E && (negative F && not (negative E))) (is_nan E && not (is_nan F)) (not (total_less E F) && ltb (number_of f) (number_of e)) h
  where
    E : Float
    E = e.start_time

    F : Float
    F = f.start_time

    first : (a b c d : Bool) → ((a || b || c) || d) ≡ false → T (not a)
    first true b c d h = absurd (let z : ◌≡◌ {A = ℕ} 0 1 = ap (λ (t : Bool). cond t 0 1) h in omega arith)
    first false b c d h = tt

none-early : (θ : Float) (e : Event) (l : List Event) → WeaklySorted (e ∷ l) → event_sum nan_start (e ∷ l) ≡ 0 → lt e.start_time θ ≡ false → event_sum (early θ) (e ∷ l) ≡ 0
none-early θ e [] s n h = omega (arith, one_if_no (lt e.start_time θ) h)
none-early θ e (f ∷ l) s n h =
    let E = e.start_time in
    let F = f.start_time in
    let k : is_nan E ≡ false = no_one_if (is_nan E) (omega arith) in
    let p : lt F θ ≡ false = is_false (lt F θ) (not_T (lt F θ) (λ q. T_not (lt E θ) (rw h tt) (lt_through F E θ (rw k tt) q (starts-later e f s.0)))) in
    omega (arith, one_if_no (lt E θ) h, none-early θ f l s.1 (omega arith) p)

pub start_sorted : (θ : Float) (w s : List Event) (x : List StoredEdit) → WeaklySorted w → event_sum nan_start w ≡ 0
    → WeaklySorted (start θ w s x).waiting × (event_sum (early θ) (start θ w s x).waiting ≡ 0)
unfolding start
start_sorted θ [] s x o n = (tt, refl)
start_sorted θ (e ∷ w) s x o n =
    go (lt e.start_time θ) refl (start_sorted θ w (s ++ (with_edit (edit_of (number_of e) x) e ∷ [])) (drop_edit (number_of e) x) o.1 (omega arith))
  where
    s' : List Event
    s' = s ++ (with_edit (edit_of (number_of e) x) e ∷ [])

    x' : List StoredEdit
    x' = drop_edit (number_of e) x

    go : (b : Bool) → lt e.start_time θ ≡ b → WeaklySorted (start θ w s' x').waiting × (event_sum (early θ) (start θ w s' x').waiting ≡ 0)
        → WeaklySorted (start θ (e ∷ w) s x).waiting × (event_sum (early θ) (start θ (e ∷ w) s x).waiting ≡ 0)
    go true h r = rw (h, start) r
    go false h r = rw (h, start) (o, none-early θ e w o n h)

pub early-nothing : (l : List Event) → event_sum (early -∞) l ≡ 0
early-nothing [] = refl
early-nothing (e ∷ l) = omega (arith, one_if_no (lt e.start_time -∞) (is_false (lt e.start_time -∞) (not-before-all e.start_time)), early-nothing l)
