-- The walks of the loops, in the words of the contracts. Assumes nothing.
use mathlib.Core.Path.{◌≡◌, refl, ap, ◌∙◌}
use mathlib.Core.Logic.{⊎_elim}
use mathlib.Core.List.{List, [], ◌∷◌, ◌++◌, map, append-nil}
use Prim.Native.Nat.{ℕ, zero, suc, ◌+◌, ◌-◌, ◌≤◌, min}
use native.Mathlib.Nat.{eq-or-lt_of_le}
use native.Mathlib.Numerals.{add-one}
use native.Mathlib.Omega.{arith}
use lib.ListN.{length, get_or, take, drop, replicate, drop_of_length-le, length-drop}
use lib.Seq.{take-length, drop-length, take_all, drop-cons, take_at, drop_at}
use Rattle.event.specs.Sources.{made, steps}
use Rattle.runs.specs.Walk.{walk, ends, zipped, front}

-- ---- a walk that looks at no element makes as many as there are
pub walk_made : {A S : Type 0} (v : S → A) (next : S → S) (s : S) (l : List A) → walk (λ x a. v x) next s l ≡ made v next s (length l)
unfolding walk made
walk_made v next s [] = refl
walk_made v next s (a ∷ l) = ap (λ (r : List _). v s ∷ r) (walk_made v next (next s) l)

pub ends-steps : {A S : Type 0} (next : S → S) (s : S) (l : List A) → ends next s l ≡ steps next s (length l)
unfolding ends steps
ends-steps next s [] = refl
ends-steps next s (a ∷ l) = ends-steps next (next s) l

-- ---- a walk along what its states make
pub walk_on : {A S : Type 0} (h : A → S → A) (next : S → S) (s : S) (l : List A) → walk (λ y a. h a y) next s l ≡ zipped h (made (λ y. y) next s (length l)) l
unfolding walk zipped made
walk_on h next s [] = refl
walk_on h next s (a ∷ l) = ap (λ (r : List _). h a s ∷ r) (walk_on h next (next s) l)

steps_suc : {S : Type 0} (next : S → S) (s : S) (k : ℕ) → steps next s (suc k) ≡ next (steps next s k)
unfolding steps
steps_suc next s zero = refl
steps_suc next s (suc k) = steps_suc next (next s) k

pub steps-more : {S : Type 0} (next : S → S) (s : S) (k : ℕ) → steps next s (k + 1) ≡ next (steps next s k)
steps-more next s k = rw add-one (steps_suc next s k)

-- ---- a walk that looks at no state maps
pub walk_map : {A : Type 0} (f : A → A) (l : List A) → walk (λ (k : ℕ) a. f a) (λ k. k) 0 l ≡ map f l
unfolding walk
walk_map f [] = refl
walk_map f (a ∷ l) = ap (λ (r : List _). f a ∷ r) (walk_map f l)

pub map_same : {A : Type 0} (x : A) (l : List A) → map (λ (a : A). x) l ≡ replicate (length l) x
map_same x [] = refl
map_same x (a ∷ l) = ap (λ (r : List _). x ∷ r) (map_same x l)

-- ---- a walk along another list
module _ {A B : Type 0} (h : A → B → A) (d : B) where
  later : (y : B) (xs : List B) (k : ℕ) (l : List A)
      → walk (λ k a. h a (get_or (y ∷ xs) k d)) (λ k. k + 1) (k + 1) l ≡ walk (λ k a. h a (get_or xs k d)) (λ k. k + 1) k l
  unfolding walk
  later y xs k [] = refl
  later y xs k (a ∷ l) =
      let v : get_or (y ∷ xs) (k + 1) d ≡ get_or xs k d = rw add-one in
      λ i. h a (v i) ∷ later y xs (k + 1) l i

  pub walk_zipped : (xs : List B) (l : List A) → length l ≤ length xs → walk (λ k a. h a (get_or xs k d)) (λ k. k + 1) 0 l ≡ zipped h xs l
  unfolding walk zipped
  walk_zipped xs [] b = refl
  walk_zipped [] (a ∷ l) b = absurd (omega arith)
  walk_zipped (x ∷ xs) (a ∷ l) b = ap (λ (r : List A). h a x ∷ r) (later x xs 0 l ∙ walk_zipped xs l (omega arith))

-- a walk that copies from place `at` on
pub walk_copy : {A : Type 0} (d : A) (xs : List A) (at : ℕ) (l : List A) → at + length l ≤ length xs
    → walk (λ j a. get_or xs j d) (λ j. j + 1) at l ≡ take (length l) (drop at xs)
unfolding walk
walk_copy d xs at [] b = refl
walk_copy d xs at (a ∷ l) b =
    let e : drop at xs ≡ get_or xs at d ∷ drop (suc at) xs = drop-cons xs at d (omega arith) in
    rw (e, add-one) (ap (λ (r : List _). get_or xs at d ∷ r) (walk_copy d xs (suc at) l (omega arith)))

-- the first n of l made ys, and then what is left made by f
pub then-rest : {A : Type 0} (f : List A → List A) (n : ℕ) (ys l : List A) → n ≤ length l → length ys ≡ n
    → take n (ys ++ drop n l) ++ (f (take (length l - n) (drop n (ys ++ drop n l))) ++ drop (length l - n) (drop n (ys ++ drop n l))) ≡ ys ++ f (drop n l)
then-rest f n ys l h e =
    let j : length (drop n l) ≡ length l - n = length-drop n l in
    let k : take (length l - n) (drop n l) ≡ drop n l = take_all (length l - n) (drop n l) (omega arith) in
    let b : length (drop n l) ≤ length l - n = omega arith in
    let w : drop (length l - n) (drop n l) ≡ [] = drop_of_length-le (drop n l) b in
    rw (take_at ys (drop n l) n e, drop_at ys (drop n l) n e, k, w, append-nil)

-- the first n of l made ys, and then what is left made z
pub then_same : {A : Type 0} (z : A) (n : ℕ) (ys l : List A) → n ≤ length l → length ys ≡ n
    → take n (ys ++ drop n l) ++ (replicate (length (take (length l - n) (drop n (ys ++ drop n l)))) z ++ drop (length l - n) (drop n (ys ++ drop n l)))
    ≡ ys ++ replicate (length l - n) z
then_same z n ys l h e =
    then-rest (λ (m : List _). replicate (length m) z) n ys l h e
    ∙ ap (λ (k : ℕ). ys ++ replicate k z) (length-drop n l)

-- ---- the first n of l are the first m, where m is n cut to l's length
pub take-cut : {A : Type 0} (n m : ℕ) (l : List A) → m ≡ min n (length l) → take m l ≡ take n l
take-cut n m l e =
    ⊎_elim
    (λ h. rw h)
    (λ h. let k : m ≡ length l = omega arith in rw (k, take-length, take_all n l (omega arith)))
    (eq-or-lt_of_le {n = m} {m = n} (omega arith))

pub drop-cut : {A : Type 0} (n m : ℕ) (l : List A) → m ≡ min n (length l) → drop m l ≡ drop n l
drop-cut n m l e =
    ⊎_elim
    (λ h. rw h)
    (λ h.
    let k : m ≡ length l = omega arith in
    let b : length l ≤ n = omega arith in
    rw (k, drop-length, drop_of_length-le l b))
    (eq-or-lt_of_le {n = m} {m = n} (omega arith))

pub front_cut : {A : Type 0} (g : List A → List A) (n m : ℕ) (l : List A) → m ≡ min n (length l) → front m g l ≡ front n g l
front_cut g n m l e = rw (take-cut n m l e, drop-cut n m l e)
