-- Document 02, Paper 9, by values: exact arithmetic by hand. Assumes nothing.
use Rattle.std.specs.Prelude.{ℕ, ◌+◌, ◌≡◌, refl, true, false, List, [], ◌∷◌, ◌++◌, map, pos, negsuc, replicate, Float}
use Rattle.std.proofs.Common.{true≢false}
use Rattle.std.specs.Float.{nan, fin}
use Rattle.std.specs.Float.Ieee.{add, round}
use Rattle.floats.specs.Arithmetic.{zeroᶠ, oneᶠ, -∞}
use Rattle.floats.specs.Constants.{+∞}
use Rattle.sums.specs.Multiples.{multiple, multiples, summed, numerator, exact_sum, Exactly}

-- n / 2 ^ (k + 1)
abbrev over : (n k : ℕ) → Float
over n k = fin false n (negsuc k)

abbrev pub least : Float
least = over 1 14

abbrev pub -0ᶠ : Float
-0ᶠ = fin true 0 (pos 0)

-- "multiples of 1/32768 within -1 and 1": both ends, the least, 32767/32768 and both zeros are; 1/65536, 3/65536, 32769/32768 and what is no number are not.
pub which :
    (map multiple (oneᶠ ∷ fin true 1 (pos 0) ∷ least ∷ fin true 32767 (negsuc 14) ∷ zeroᶠ ∷ -0ᶠ ∷ []) ≡ replicate 6 true)
    × (map multiple (over 1 15 ∷ over 3 15 ∷ over 32769 14 ∷ fin true 32769 (negsuc 14) ∷ over 3 0 ∷ +∞ ∷ -∞ ∷ nan ∷ []) ≡ replicate 8 false)
unfolding multiple
which = (refl, refl)

-- in 32768ths; what is no number counts for nothing
pub how_many : map numerator (least ∷ fin true 1 (pos 0) ∷ over 3 1 ∷ zeroᶠ ∷ -0ᶠ ∷ nan ∷ -∞ ∷ []) ≡ pos 1 ∷ negsuc 32767 ∷ pos 24576 ∷ pos 0 ∷ pos 0 ∷ pos 0 ∷ pos 0 ∷ []
unfolding numerator
how_many = refl

-- The exact sum of none, and of 1, -3/4 and the least: 8193/32768, a number below zero with its sign, and zero, which is +0.0.
pub exact-sums :
    (exact_sum [] ≡ pos 0) × (exact_sum (oneᶠ ∷ fin true 3 (negsuc 1) ∷ least ∷ []) ≡ pos 8193)
    × Exactly (over 8193 14) (pos 8193) × Exactly (fin true 1 (negsuc 0)) (negsuc 16383) × Exactly zeroᶠ (pos 0) × (Exactly -0ᶠ (pos 0) → ⊥)
unfolding exact_sum numerator
exact-sums = (refl, refl, (refl, refl), (refl, refl), (refl, refl), λ h. true≢false h.0)

-- "added from +0.0": zeros of either sign, and 1 - 1, add up to +0.0; no contribution at all is +0.0.
pub zeros :
    (summed zeroᶠ (-0ᶠ ∷ -0ᶠ ∷ []) ≡ zeroᶠ) × (summed zeroᶠ (-0ᶠ ∷ zeroᶠ ∷ -0ᶠ ∷ []) ≡ zeroᶠ) × (summed zeroᶠ (oneᶠ ∷ fin true 1 (pos 0) ∷ -0ᶠ ∷ []) ≡ zeroᶠ) × (summed zeroᶠ [] ≡ zeroᶠ)
unfolding summed add round
zeros = (refl, refl, refl, refl)

-- 255 ones and the least, either way round: 255 + 1/32768, no digit lost
pub exact-either-way :
    let l : List Float = replicate 255 oneᶠ in
    (summed zeroᶠ (l ++ (least ∷ [])) ≡ over 8355841 14) × (summed zeroᶠ (least ∷ l) ≡ over 8355841 14) × (exact_sum (l ++ (least ∷ [])) ≡ pos 8355841) × (multiples (least ∷ l) ≡ true) × (multiples (l ++ (over 1 15 ∷ [])) ≡ false) × (multiples (over 1 15 ∷ l) ≡ false)
unfolding summed add round exact_sum numerator multiples multiple
exact-either-way = (refl, refl, refl, refl, refl, refl)

-- Finer numbers: 1 + 2 ^ -24 is 1, a tie to the even one, and 2 ^ -24 + 2 ^ -24 + 1 is 1 + 2 ^ -23. The order counts.
pub finer_numbers : (summed zeroᶠ (oneᶠ ∷ over 1 23 ∷ over 1 23 ∷ []) ≡ oneᶠ) × (summed zeroᶠ (over 1 23 ∷ over 1 23 ∷ oneᶠ ∷ []) ≡ over 8388609 22)
unfolding summed add round
finer_numbers = (refl, refl)

-- More of them: 512 ones and twice the least are 512, or 512 + 2/32768. The order counts.
pub too_many :
    let l : List Float = replicate 512 oneᶠ in
    (summed zeroᶠ (l ++ (least ∷ least ∷ [])) ≡ fin false 1 (pos 9)) × (summed zeroᶠ (least ∷ least ∷ l) ≡ over 8388609 13)
unfolding summed add round
too_many = (refl, refl)

-- Larger ones: the least and 255 times 4 are 1020, and the least is lost.
pub too_large : summed zeroᶠ (least ∷ replicate 255 (fin false 1 (pos 2))) ≡ fin false 255 (pos 2)
unfolding summed add round
too_large = refl
