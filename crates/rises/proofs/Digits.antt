-- The digits of a word, one by one. Assumes nothing.
use Rattle.std.proofs.Common.{zero, ltb, ◌⊎◌, ⊎_elim, lt-ltb, Some, None, ◌≡◌, ℕ, suc, ◌+◌, ◌-◌, ◌*◌, ◌<◌, ◌≤◌, Bool, true, false, cond, leb, List, [], ◌∷◌, length, get_or, drop, sym, refl, ap, ◌∙◌, add-one, arith, drop_of_length-le, drop-cons, eq-eqb, ne_eqb, le-leb}
use mathlib.Core.Bool.{and-false}
use borrow.Author.Tests.{lt-leb}
use Rattle.rises.specs.Words.{is_digit, decimal, in_range, count_of}

-- ---- before the first

pub empty-word : (l : List ℕ) → length l ≡ 0 → None ≡ count_of l
unfolding count_of decimal
empty-word [] h = refl
empty-word (b ∷ l) h = absurd (omega (arith, h))

pub zero_first : (l : List ℕ) → 0 < length l → get_or l 0 0 ≡ 48 → None ≡ count_of l
unfolding count_of
zero_first [] h q = absurd (omega arith)
zero_first (b ∷ l) h q = rw (eq-eqb b 48 q)

pub none_read : (l : List ℕ) → 0 < length l → (get_or l 0 0 ≡ 48 → ⊥) → in_range (decimal 0 (drop 0 l)) ≡ count_of l
unfolding count_of
none_read [] h q = absurd (omega arith)
none_read (b ∷ l) h q = rw (ne_eqb b 48 q)

-- what is read is above 0, as the first digit is
pub positive : (l : List ℕ) (v i : ℕ) → (get_or l 0 0 ≡ 48 → ⊥) → 48 ≤ get_or l i 0 → (0 < i → 0 < v) → 0 < v * 10 + (get_or l i 0 - 48)
positive l v zero q h p = let n : 48 < get_or l 0 0 = omega (arith, q) in omega arith
positive l v (suc i) q h p = let n : 0 < v = p (omega arith) in omega arith

-- ---- each one

module _ (l : List ℕ) (v i : ℕ) (h : i < length l) where
  abbrev b : ℕ
  b = get_or l i 0

  left : (t : Bool) → is_digit b ≡ t → decimal v (drop i l) ≡ cond t (decimal (v * 10 + (b - 48)) (drop (suc i) l)) None
  unfolding decimal
  left t q = rw (drop-cons l i 0 h, q)

  pub digit-read : 48 ≤ b → b ≤ 57 → decimal v (drop i l) ≡ decimal (v * 10 + (b - 48)) (drop (i + 1) l)
  digit-read p q = left true (rw (le-leb 48 b p, le-leb b 57 q)) ∙ ap (λ (j : ℕ). decimal (v * 10 + (b - 48)) (drop j l)) (sym (add-one i))

  below-digits : b < 48 → decimal v (drop i l) ≡ None
  below-digits p = left false (rw (lt-leb 48 b p))

  above-digits : 57 < b → decimal v (drop i l) ≡ None
  above-digits p = left false (rw (lt-leb b 57 p) (and-false (leb 48 b)))

  pub no_digit : (b < 48) ⊎ ((48 ≤ b) × (57 < b)) → decimal v (drop i l) ≡ None
  no_digit x = ⊎_elim below-digits (λ y. above-digits y.1) x

-- ---- more than 256 is too much, whatever follows

pub too_much : (v : ℕ) (l : List ℕ) → 256 < v → in_range (decimal v l) ≡ None
unfolding decimal
too_much v [] h = rw (lt-leb v 256 h) (ap (λ (b : Bool). cond b (Some v) None) (and-false (ltb 0 v)))
too_much v (b ∷ l) h = go (is_digit b) (too_much (v * 10 + (b - 48)) l (omega arith))
  where
    go : (t : Bool) → in_range (decimal (v * 10 + (b - 48)) l) ≡ None → in_range (cond t (decimal (v * 10 + (b - 48)) l) None) ≡ None
    go true ih = ih
    go false ih = refl

-- ---- at the end

pub all_read : (l : List ℕ) (v i : ℕ) → length l ≤ i → 0 < v → v ≤ 256 → Some v ≡ in_range (decimal v (drop i l))
unfolding decimal
all_read l v i h p q = rw (drop_of_length-le l h, lt-ltb 0 v p, le-leb v 256 q)
