-- Values of the curves, by computation. Assumes nothing.
use Rattle.std.specs.Prelude.{◌≡◌, refl, false, List, [], ◌∷◌, map, ℕ, pos, negsuc, Float}
use Rattle.std.specs.Float.{fin, binary32}
use Rattle.std.specs.Float.Ieee.{round, of_bits, to_bits}
use Rattle.floats.specs.Arithmetic.{zeroᶠ, halfᶠ, oneᶠ, f32}
use Rattle.math.specs.Curves.{smooth, sine_ease, delerped}

-- n / 2 ^ (k + 1), for an odd n
abbrev over : ℕ → ℕ → Float
over n k = fin false n (negsuc k)

-- Proof sheet, case 1: smooth5 at 0, 0.25, 0.5, 0.75, 1 is 0, 0.103515625, 0.5, 0.896484375, 1. 0.103515625 is 53 / 512, and 0.896484375 is 459 / 512.
pub case-1 : map smooth (zeroᶠ ∷ over 1 1 ∷ halfᶠ ∷ over 3 1 ∷ oneᶠ ∷ []) ≡ zeroᶠ ∷ over 53 8 ∷ halfᶠ ∷ over 459 8 ∷ oneᶠ ∷ []
unfolding smooth round
case-1 = refl

-- "one rounding per operation, in the written order of `smooth5` and `sine_ease`": bits at the f32 nearest to 0.1, 0.3, 0.7 and 0.9, as the Rust has them (a held 1.0 with a fade_in of 1 second, ticked at rate 10).
abbrev tenths : List Float
tenths = map f32 (0x3dcccccd ∷ 0x3e99999a ∷ 0x3f333333 ∷ 0x3f666666 ∷ [])

pub smooth_rounds : map (λ x. to_bits binary32 (smooth x)) tenths ≡ 0x3c0c3f3f ∷ 0x3e26fe72 ∷ 0x3f564064 ∷ 0x3f7dcefc ∷ []
unfolding smooth of_bits to_bits round
smooth_rounds = refl

-- and at 0.5, where the approximation is 12/17
pub sine_ease_rounds : map (λ x. to_bits binary32 (sine_ease x)) (halfᶠ ∷ tenths) ≡ 0x3f34b4b5 ∷ 0x3e21cbd8 ∷ 0x3ee89fa7 ∷ 0x3f63d570 ∷ 0x3f7cced8 ∷ []
unfolding sine_ease of_bits to_bits round
sine_ease_rounds = refl

-- 1.5 is a quarter of the way from 1 to 3.
pub on_the_way : delerped oneᶠ (fin false 3 (pos 0)) (fin false 3 (negsuc 0)) ≡ over 1 1
unfolding delerped round
on_the_way = refl
