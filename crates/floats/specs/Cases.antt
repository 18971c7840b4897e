-- Proof sheet, case 2, and some more values, by computation. Assumes nothing.
use Rattle.std.specs.Prelude.{◌≡◌, ◌+◌, ◌-◌, ◌^◌, true, false, List, [], ◌∷◌, map, replicate, pos, negsuc, refl, Float}
use Rattle.std.specs.Float.{nan, inf, fin, binary32}
use Rattle.std.specs.Float.Ieee.{round, of_bits, to_bits, lt, eq, is_nan}
use Rattle.floats.specs.Arithmetic.{zeroᶠ, oneᶠ, halfᶠ}
use Rattle.floats.specs.Constants.{f64}
use Rattle.std.specs.declared.cmp.Ordering.TheVariants.{Less, Equal, Greater}
use Rattle.std.specs.declared.cmp.Ordering.{Ordering}
use Rattle.floats.specs.Floats.{narrowed, index, negative, total_less, sooner}
use Rattle.floats.specs.Ordered.{ordered}

-- Index of 0.5 is 1, of 2.5 is 3, of -0.5 is 0.
pub case-2 : map index (halfᶠ ∷ fin false 5 (negsuc 0) ∷ fin true 1 (negsuc 0) ∷ []) ≡ 1 ∷ 3 ∷ 0 ∷ []
unfolding index
case-2 = refl

-- The largest f64 below 0.5 gives 0, not 1; 2 ^ 64 and infinity give 2 ^ 64 - 1; NaN and -infinity give 0.
pub index_edges : map index (f64 0x3fdfffffffffffff ∷ fin false 1 (pos 64) ∷ inf false ∷ nan ∷ inf true ∷ []) ≡ 0 ∷ (2 ^ 64 - 1) ∷ (2 ^ 64 - 1) ∷ 0 ∷ 0 ∷ []
unfolding index of_bits
index_edges = refl

-- -0.0 precedes 0.0, and not the other way.
pub zeros : map (λ s. total_less (fin s 0 (pos 0)) zeroᶠ) (true ∷ false ∷ []) ≡ true ∷ false ∷ []
unfolding total_less
zeros = refl

-- 0.1 is 3DCCCCCD; half the smallest f32 is a tie and goes to 0, one and a half to two; 2 ^ 128 - 2 ^ 103 is a tie and goes to infinity (7F800000), and -(2 ^ 128 - 2 ^ 103 - 2 ^ 75) to the largest f32 with its sign.
pub narrowed_edges : map (λ x. to_bits binary32 (narrowed x)) (f64 0x3fb999999999999a ∷ fin false 1 (negsuc 149) ∷ fin false 3 (negsuc 149) ∷ fin false (2 ^ 25 - 1) (pos 103) ∷ fin true (2 ^ 53 - 2 ^ 28 - 1) (pos 75) ∷ [])
    ≡ 0x3dcccccd ∷ 0 ∷ 2 ∷ 0x7f800000 ∷ 0xff7fffff ∷ []
unfolding narrowed round of_bits to_bits
narrowed_edges = refl

-- "overflow to infinity, NaN to NaN": infinities keep their sign, and 1 + 2 ^ -24 is a tie that goes to 1.
pub narrowed_others : map narrowed (inf false ∷ inf true ∷ nan ∷ fin false (2 ^ 24 + 1) (negsuc 23) ∷ []) ≡ inf false ∷ inf true ∷ nan ∷ oneᶠ ∷ []
unfolding narrowed round
narrowed_others = refl

-- "large values saturate at 2^64 - 1": the largest f64 below 2 ^ 64 does not, and 1.5 of 2 ^ 64 does. -2.5 gives 0, as every negative does.
pub index-large : map index (fin false (2 ^ 53 - 1) (pos 11) ∷ fin false 3 (pos 63) ∷ fin true 5 (negsuc 0) ∷ []) ≡ (2 ^ 64 - 2 ^ 11) ∷ (2 ^ 64 - 1) ∷ 0 ∷ []
unfolding index
index-large = refl

-- "Start times order by IEEE 754 totalOrder": each of these comes before the next, and none before the one before it or itself.
abbrev ascending : List Float
ascending = inf true ∷ fin true 1 (pos 0) ∷ fin true 1 (negsuc 0) ∷ fin true 0 (pos 0) ∷ fin false 0 (pos 0) ∷ fin false 1 (negsuc 0) ∷ fin false 1 (pos 0) ∷ inf false ∷ nan ∷ []

abbrev neighbours : (Float → Float → Ordering) → List Float → List Ordering
neighbours f [] = []
neighbours f (x ∷ []) = []
neighbours f (x ∷ (y ∷ l)) = f x y ∷ neighbours f (y ∷ l)

pub in-total-order : (neighbours ordered ascending ≡ replicate 8 Less) × (neighbours (λ x y. ordered y x) ascending ≡ replicate 8 Greater) × (map (λ x. ordered x x) ascending ≡ replicate 9 Equal)
unfolding ordered total_less lt eq is_nan negative
in-total-order = (refl, refl, refl)

-- then the lower number: (0, 1) before (0, 2), (-0.0, 2) before (0.0, 1), and (0, 2) before (1, 1)
pub in-number-order : sooner zeroᶠ 1 zeroᶠ 2 ∷ sooner (fin true 0 (pos 0)) 2 zeroᶠ 1 ∷ sooner zeroᶠ 2 oneᶠ 1 ∷ sooner zeroᶠ 2 zeroᶠ 1 ∷ sooner zeroᶠ 1 zeroᶠ 1 ∷ sooner oneᶠ 1 zeroᶠ 2 ∷ [] ≡ true ∷ true ∷ true ∷ false ∷ false ∷ false ∷ []
unfolding sooner total_less lt eq is_nan negative
in-number-order = refl
