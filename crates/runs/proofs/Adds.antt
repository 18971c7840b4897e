-- What is done to each sample along others, in the words of the contracts. Assumes nothing.
use mathlib.Core.Path.{◌≡◌, refl, ap, ◌∙◌}
use mathlib.Core.List.{List, [], ◌∷◌, ◌++◌, map}
use Prim.Native.Nat.{ℕ, zero, suc, ◌+◌, ◌-◌, ◌≤◌}
use native.Mathlib.Nat.{sub-zero}
use native.Mathlib.Numerals.{add-one}
use native.Mathlib.Omega.{arith}
use lib.Ieee.{Float, nan}
use lib.ListN.{length, get_or, take, drop, replicate, length-append, length-drop}
use lib.Seq.{drop-cons, length-take-le}
use Rattle.event.specs.Sources.{made}
use Rattle.floats.specs.Arithmetic.{◌+ˢ◌, ◌×ˢ◌}
use Rattle.runs.specs.Walk.{walk, zipped}
use Rattle.runs.specs.Samples.{added}
use Rattle.runs.proofs.Walks.{then-rest}

-- the sources' samples themselves
pub zipped_others : {A : Type 0} (ys l : List A) → length ys ≡ length l → zipped (λ a y. y) ys l ≡ ys
unfolding zipped
zipped_others [] [] e = refl
zipped_others (y ∷ ys) [] e = absurd (omega (arith, e))
zipped_others [] (a ∷ l) e = absurd (omega (arith, e))
zipped_others (y ∷ ys) (a ∷ l) e = ap (λ (r : List _). y ∷ r) (zipped_others ys l (omega (arith, e)))

pub length-made : {A S : Type 0} (v : S → A) (next : S → S) (s : S) (k : ℕ) → length (made v next s k) ≡ k
unfolding made
length-made v next s zero = refl
length-made v next s (suc k) = ap suc (length-made v next (next s) k)

-- the samples at a gain, added
pub zipped_added : (g : Float) (run l : List Float) → zipped (λ a y. a +ˢ (y ×ˢ g)) run l ≡ added g run l
unfolding zipped
zipped_added g run [] = refl
zipped_added g [] (a ∷ l) = refl
zipped_added g (y ∷ run) (a ∷ l) = ap (λ (r : List Float). (a +ˢ (y ×ˢ g)) ∷ r) (zipped_added g run l)

module _ {A B : Type 0} (h : A → B → A) (z : B) where
  -- one level
  pub zipped_level : (l : List A) → map (λ a. h a z) l ≡ zipped h (replicate (length l) z) l
  unfolding zipped
  zipped_level [] = refl
  zipped_level (a ∷ l) = ap (λ (r : List A). h a z ∷ r) (zipped_level l)

  -- some others, and then one level
  pub zipped_then : (n : ℕ) (xs : List B) (l : List A) → n ≤ length l → n ≤ length xs
      → zipped h xs (take n l) ++ map (λ a. h a z) (drop n l) ≡ zipped h (take n xs ++ replicate (length l - n) z) l
  unfolding zipped
  zipped_then zero xs l i j = rw sub-zero (zipped_level l)
  zipped_then (suc n) xs [] i j = absurd (omega arith)
  zipped_then (suc n) [] (a ∷ l) i j = absurd (omega arith)
  zipped_then (suc n) (x ∷ xs) (a ∷ l) i j =
      let k : suc (length l) - suc n ≡ length l - n = omega arith in
      rw k (ap (λ (r : List A). h a x ∷ r) (zipped_then n xs l (omega arith) (omega arith)))

  pub length-zipped : (xs : List B) (l : List A) → length (zipped h xs l) ≡ length l
  unfolding zipped
  length-zipped xs [] = refl
  length-zipped [] (a ∷ l) = refl
  length-zipped (x ∷ xs) (a ∷ l) = ap suc (length-zipped xs l)

  -- the same, as two loops leave it
  pub then_level : (n : ℕ) (xs : List B) (l : List A) → n ≤ length l → n ≤ length xs
      → (let w = zipped h xs (take n l) ++ drop n l in take n w ++ (map (λ a. h a z) (take (length w - n) (drop n w)) ++ drop (length w - n) (drop n w)))
      ≡ zipped h (take n xs ++ replicate (length l - n) z) l
  then_level n xs l i j =
      let ys = zipped h xs (take n l) in
      let y : length ys ≡ n = length-zipped xs (take n l) ∙ length-take-le n l i in
      let k : length (ys ++ drop n l) ≡ length l = simp (length-append, y, length-drop) (omega arith) in
      rw k (then-rest (λ (r : List A). map (λ a. h a z) r) n ys l i y) ∙ zipped_then n xs l i j

-- a walk along another list, from place `at` on, at a gain
pub walk_from : (g : Float) (xs : List Float) (at : ℕ) (l : List Float) → at + length l ≤ length xs
    → walk (λ j a. a +ˢ (get_or xs j nan ×ˢ g)) (λ j. j + 1) at l ≡ added g (take (length l) (drop at xs)) l
unfolding walk zipped
walk_from g xs at [] b = refl
walk_from g xs at (a ∷ l) b =
    let e : drop at xs ≡ get_or xs at nan ∷ drop (suc at) xs = drop-cons xs at nan (omega arith) in
    rw (e, add-one) (ap (λ (r : List Float). (a +ˢ (get_or xs at nan ×ˢ g)) ∷ r) (walk_from g xs (suc at) l (omega arith)))
