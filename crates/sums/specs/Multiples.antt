-- Document 02, Paper 9: "any order of at most 256 contributions added from +0.0 gives the same bits, and these are the exact sum". What a contribution is, their sum in f32, and the exact sum.
use Rattle.std.specs.Prelude.{ℕ, ◌*◌, ◌/◌, ◌%◌, Bool, true, false, ◌&&◌, List, [], ◌∷◌, leb, eqb, ℤ, pos, negsuc, neg_ℤ, nat_abs, ◌+ℤ◌, Float}
use Rattle.std.specs.Float.{nan, inf, fin}
use Rattle.std.specs.Float.Ieee.{up, down}
use Rattle.std.specs.Float.Ieee.Exact.{HasValue}
use Rattle.floats.specs.Arithmetic.{◌+ˢ◌}

-- "multiples of 1/32768 within -1 and 1": m * 2 ^ e is (m * up e) / down e. Both zeros are multiples.
unfoldable pub multiple : Float → Bool
multiple nan = false
multiple (inf s) = false
multiple (fin s m e) = eqb (m * up e * 32768 % down e) 0 && leb (m * up e) (down e)

unfoldable pub multiples : List Float → Bool
multiples [] = true
multiples (x ∷ l) = multiple x && multiples l

-- `from`, then each of the list, added in f32
unfoldable pub summed : (from : Float) → List Float → Float
summed from [] = from
summed from (x ∷ l) = summed (from +ˢ x) l

-- how many 32768ths a multiple is
abbrev pub signed : (negative : Bool) → ℕ → ℤ
signed false n = pos n
signed true n = neg_ℤ (pos n)

unfoldable pub numerator : Float → ℤ
numerator nan = pos 0
numerator (inf s) = pos 0
numerator (fin s m e) = signed s (m * up e * 32768 / down e)

-- the exact sum, a whole number over 32768
unfoldable pub exact_sum : List Float → ℤ
exact_sum [] = pos 0
exact_sum (x ∷ l) = numerator x +ℤ exact_sum l

-- x is the number z / 32768. A zero is +0.0.
abbrev pub below_zero : ℤ → Bool
below_zero (pos n) = false
below_zero (negsuc n) = true

abbrev pub Exactly : Float → ℤ → Type 0
Exactly x z = HasValue x (below_zero z) (nat_abs z) 32768
