-- The samples of a recording from its bytes. Assumes nothing.
use Rattle.std.specs.Prelude.{ℕ, zero, suc, ◌*◌, ◌≡◌, refl, List, [], ◌∷◌, Float, pos, negsuc}
use Rattle.std.specs.Float.{fin, binary32}
use Rattle.std.specs.Float.Ieee.{of_bits}
use Rattle.tape.specs.Fields.{field, from_little_endian}

-- n samples, the first of them sample i: four bytes each
unfoldable pub samples_from : List ℕ → (n i : ℕ) → List Float
samples_from bs zero i = []
samples_from bs (suc n) i = of_bits binary32 (field bs (4 * i) 4) ∷ samples_from bs n (suc i)

-- ---- computed: 3F800000 and BF000000 are 1 and -0.5
pub two_samples : samples_from (0 ∷ 0 ∷ 0x80 ∷ 0x3F ∷ 0 ∷ 0 ∷ 0x00 ∷ 0xBF ∷ []) 2 0 ≡ of_bits binary32 0x3F800000 ∷ of_bits binary32 0xBF000000 ∷ []
unfolding samples_from field from_little_endian
two_samples = refl
