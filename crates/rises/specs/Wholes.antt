-- Whole numbers up to 256 as f64: exact, in order, within document 01's limits, and their differences are whole. What holds of each is one test, computed over all of them. Assumes nothing.
use Rattle.std.specs.Prelude.{◌≡◌, ℕ, zero, suc, ◌+◌, ◌-◌, ◌*◌, ◌<◌, ◌≤◌, Bool, true, false, not, ◌&&◌, T, ◌==◌, refl, Float}
use Rattle.std.proofs.Math.Bool.{and-false}
use Rattle.std.proofs.Common.{true≢false, ap, ◌∙◌, mul-pos, arith}
use Rattle.std.proofs.Math.Decide.{dec_lt}
use borrow.Author.Tests.{eqb-true, le-ltb, not-true}
use Rattle.std.specs.Float.Ieee.{nan, up, down, round, add, sub, sum, neg, lt, le, eq, is_nan}
use Rattle.std.specs.Float.{inf, fin, binary64}
use Rattle.std.specs.Float.Ieee.Bits.{is_true}
use Rattle.std.specs.Float.Ieee.Fits.{and_l, and_r, down_pos}
use Rattle.std.specs.Float.Ieee.Exact.{HasValue}
use Rattle.std.specs.Float.Ieee.Scale.{round_same}
use Rattle.floats.specs.Arithmetic.{◌-ᵈ◌, zeroᶠ, -∞, whole}
use Rattle.floats.specs.Floats.{total_less, negative}
use Rattle.floats.specs.TotalOrder.{total_less_transitive}
use Rattle.ledger.specs.Refusals.{within}

-- ---- one test

abbrev is_whole : Float → ℕ → Bool
is_whole nan a = false
is_whole (inf s) a = false
is_whole (fin s m e) a = not s && m * up e * 1 == a * down e

test : ℕ → Bool
unfolding total_less lt eq is_nan negative whole within le neg
test a = total_less (whole a) (whole (suc a)) && (within (whole a) && (not (lt (whole a) zeroᶠ) && is_whole (whole a) a))

below : (p : ℕ → Bool) → ℕ → Bool
below p zero = true
below p (suc n) = p n && below p n

below_at : (p : ℕ → Bool) (n : ℕ) → T (below p n) → (k : ℕ) → k < n → T (p k)
unfolding below
below_at p zero t k h = absurd (omega arith)
below_at p (suc n) t k h = go (below_at p n (and_r (p n) (below p n) t) k) (dec_lt k n)
  where
    go : (k < n → T (p k)) → Dec (k < n) → T (p k)
    go ih (yes l) = ih l
    go ih (no l) = let q : k ≡ n = omega arith in rw q (and_l (p n) (below p n) t)

tested : T (below test 257)
unfolding below test
tested = tt

module _ (a : ℕ) (h : a ≤ 256) where
  at : T (test a)
  at = below_at test 257 tested a (omega arith)

  abbrev one : Bool
  one = total_less (whole a) (whole (suc a))

  abbrev two : Bool
  two = within (whole a)

  abbrev three : Bool
  three = not (lt (whole a) zeroᶠ)

  abbrev four : Bool
  four = is_whole (whole a) a

  next-above : total_less (whole a) (whole (suc a)) ≡ true
  unfolding test
  next-above = is_true one (and_l one (two && (three && four)) at)

  pub whole-within : within (whole a) ≡ true
  unfolding test
  whole-within = is_true two (and_l two (three && four) (and_r one (two && (three && four)) at))

  pub whole-positive : lt (whole a) zeroᶠ ≡ false
  unfolding test
  whole-positive = not-true (lt (whole a) zeroᶠ) (is_true three (and_l three four (and_r two (three && four) (and_r one (two && (three && four)) at))))

  exact : HasValue (whole a) false a 1
  unfolding test
  exact = go (whole a) (and_r three four (and_r two (three && four) (and_r one (two && (three && four)) at)))
    where
      go : (x : Float) → T (is_whole x a) → HasValue x false a 1
      go nan t = absurd t
      go (inf s) t = absurd t
      go (fin true m e) t = absurd t
      go (fin false m e) t = (refl, eqb-true (m * up e * 1) (a * down e) (is_true (m * up e * 1 == a * down e) t))

-- in the heap's order
pub whole_order : (b a : ℕ) → a < b → b ≤ 256 → total_less (whole a) (whole b) ≡ true
whole_order zero a h k = absurd (omega arith)
whole_order (suc b) a h k = go (λ l. whole_order b a l (omega arith)) (dec_lt a b)
  where
    go : (a < b → total_less (whole a) (whole b) ≡ true) → Dec (a < b) → total_less (whole a) (whole (suc b)) ≡ true
    go ih (yes l) = total_less_transitive (whole a) (whole b) (whole (suc b)) (ih l) (next-above b (omega arith))
    go ih (no l) = let q : a ≡ b = omega arith in rw q (next-above b (omega arith))

-- ---- differences

times : (u b p q : ℕ) → u * 1 ≡ b * p → u * q ≡ b * p * q
times u b p q h = let k : u ≡ b * p = omega (arith, h) in ap (λ (x : ℕ). x * q) k

-- with x the value d + a and y the value a
sub_values : (x y : Float) (d a : ℕ) → HasValue x false (d + a) 1 → HasValue y false a 1 → sub binary64 x y ≡ round binary64 false d 1
unfolding sub add neg sum
sub_values nan y d a p q = absurd p
sub_values (inf s) y d a p q = absurd p
sub_values (fin s m e) nan d a p q = absurd q
sub_values (fin s m e) (inf t) d a p q = absurd q
sub_values (fin true m e) (fin t n g) d a p q = absurd (true≢false p.0)
sub_values (fin false m e) (fin true n g) d a p q = absurd (true≢false q.0)
sub_values (fin false m e) (fin false n g) d a p q = rw (le-ltb A B (omega (arith, first, second))) (round_same binary64 false (A - B) C d 1 (mul-pos (down_pos e) (down_pos g)) (omega arith) (omega (arith, first, second)))
  where
    A : ℕ
    A = m * up e * down g

    B : ℕ
    B = n * up g * down e

    C : ℕ
    C = down e * down g

    first : A ≡ d * C + a * C
    first = times (m * up e) (d + a) (down e) (down g) p.1 ∙ omega arith

    second : B ≡ a * C
    second = times (n * up g) a (down g) (down e) q.1 ∙ omega arith

pub whole_minus : (d a : ℕ) → d + a ≤ 256 → whole (d + a) -ᵈ whole a ≡ whole d
unfolding whole
whole_minus d a h = sub_values (whole (d + a)) (whole a) d a (exact (d + a) h) (exact a (omega arith))

-- nothing is before -infinity
pub not-below : (x : Float) → lt x -∞ ≡ false
unfolding lt
not-below nan = refl
not-below (inf s) = and-false s
not-below (fin s m e) = refl
