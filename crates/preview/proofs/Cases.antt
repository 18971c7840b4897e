-- Document 02, Paper 14: values of the definitions, computed.
-- The expected ones are document 01's (proof sheet, case 1), exact arithmetic by hand, or the Rust's.
use Rattle.std.specs.Prelude.{◌≡◌, refl, true, false, List, [], ◌∷◌, ◌++◌, map, pos, negsuc, Float, replicate}
use Rattle.std.specs.Float.{nan, inf, fin, binary32}
use Rattle.std.specs.Float.Ieee.{round, mul, of_bits, to_bits}
use Rattle.floats.specs.Arithmetic.{zeroᶠ, halfᶠ, oneᶠ}
use Rattle.math.specs.Curves.{smooth}
use Rattle.runs.specs.Walk.{walk}
use Rattle.preview.specs.Preview.{entry, refusal, previewed}

-- "entry k is smooth5 at k/1024": case 1 of document 01, at 0, 1/4, 1/2, 3/4 and 1: 0, 53/512, 1/2, 459/512, 1
quarters : map entry (0 ∷ 256 ∷ 512 ∷ 768 ∷ 1024 ∷ []) ≡ zeroᶠ ∷ fin false 53 (negsuc 8) ∷ halfᶠ ∷ fin false 459 (negsuc 8) ∷ oneᶠ ∷ []
unfolding smooth round
quarters = refl

-- the bits of entries 1, 2, 3, 100 and 1,023, as the Rust has them
rounded : map (λ k. to_bits binary32 (entry k)) (1 ∷ 2 ∷ 3 ∷ 100 ∷ 1023 ∷ []) ≡ 0x321fc406 ∷ 0x339f8818 ∷ 0x3486684e ∷ 0x3c031bf9 ∷ 0x3f800000 ∷ []
unfolding smooth of_bits to_bits round
rounded = refl

-- any gains may be lent: 3.0 at entry 0, 2.0 at entry 1,024, between them 0.5, and 4.0 at entry 1
abbrev 2ᶠ : Float
2ᶠ = fin false 1 (pos 1)

abbrev 3ᶠ : Float
3ᶠ = fin false 3 (pos 0)

abbrev 4ᶠ : Float
4ᶠ = fin false 1 (pos 2)

abbrev gains : List Float
gains = 3ᶠ ∷ 4ᶠ ∷ replicate 1022 halfᶠ ++ 2ᶠ ∷ []

abbrev ones : List Float
ones = oneᶠ ∷ oneᶠ ∷ oneᶠ ∷ oneᶠ ∷ []

-- "multiplies a lent run by the entries from any k on, rising"
rises : (previewed gains true 0 ones ≡ 3ᶠ ∷ 4ᶠ ∷ halfᶠ ∷ halfᶠ ∷ []) × (previewed gains true 1 ones ≡ 4ᶠ ∷ halfᶠ ∷ halfᶠ ∷ halfᶠ ∷ [])
unfolding walk mul round
rises = (refl, refl)

-- "or falling (by entry 1,024 - k)"
falls : (previewed gains false 0 ones ≡ 2ᶠ ∷ halfᶠ ∷ halfᶠ ∷ halfᶠ ∷ []) × (previewed gains false 1022 (oneᶠ ∷ oneᶠ ∷ oneᶠ ∷ []) ≡ halfᶠ ∷ 4ᶠ ∷ 3ᶠ ∷ [])
unfolding walk mul round
falls = (refl, refl)

-- "samples after the last entry are multiplied by 1.0 when rising and 0.0 when falling": -1.0 gives -0.0, and an infinity the NaN
past_the_end : (previewed gains true 1023 (oneᶠ ∷ oneᶠ ∷ 3ᶠ ∷ 4ᶠ ∷ []) ≡ halfᶠ ∷ 2ᶠ ∷ 3ᶠ ∷ 4ᶠ ∷ [])
    × (previewed gains false 1023 (oneᶠ ∷ oneᶠ ∷ oneᶠ ∷ fin true 1 (pos 0) ∷ inf false ∷ []) ≡ 4ᶠ ∷ 3ᶠ ∷ zeroᶠ ∷ fin true 0 (pos 0) ∷ nan ∷ [])
unfolding walk mul round
past_the_end = (refl, refl)

-- the sample times its gain, in f32: 3 × (1 + 2 ^ -23) is 3 + 1.5 × 2 ^ -22, a tie, and goes to 3 + 2 ^ -21
product_rounds : previewed gains true 0 (fin false 8388609 (negsuc 22) ∷ []) ≡ fin false 6291457 (negsuc 20) ∷ []
unfolding walk mul round
product_rounds = refl

-- "A first entry above 1,024 is refused as 24, and the run is left as it came."
first_entry : map refusal (0 ∷ 1023 ∷ 1024 ∷ 1025 ∷ 2000 ∷ []) ≡ 0 ∷ 0 ∷ 0 ∷ 24 ∷ 24 ∷ []
first_entry = refl

left_as_it_came : (previewed gains false 1025 (oneᶠ ∷ 3ᶠ ∷ []) ≡ oneᶠ ∷ 3ᶠ ∷ []) × (previewed gains true 1024 (oneᶠ ∷ 3ᶠ ∷ []) ≡ 2ᶠ ∷ 3ᶠ ∷ [])
unfolding walk mul round
left_as_it_came = (refl, refl)
