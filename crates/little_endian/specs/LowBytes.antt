-- The low bytes of a number: one definition for every width. Assumes nothing.
use Rattle.std.specs.Prelude.{◌≡◌, refl, List, [], ◌∷◌, ◌++◌, ℕ, zero, suc, ◌-◌, ◌/◌, ◌%◌, ◌<◌, length}
use Rattle.std.proofs.Common.{ap, arith, length-append}

-- the low w bytes of n, the lowest first
unfoldable pub little_endian : (w n : ℕ) → List ℕ
little_endian zero n = []
little_endian (suc w) n = n % 256 ∷ little_endian w (n / 256)

-- ---- laws
pub length_little : (w n : ℕ) → length (little_endian w n) ≡ w
unfolding little_endian
length_little zero n = refl
length_little (suc w) n = let q = length_little w (n / 256) in omega (arith, length-append {A = ℕ})

-- the lowest byte, then the rest
pub little_step : (w n : ℕ) → 0 < w → little_endian w n ≡ (n % 256 ∷ []) ++ little_endian (w - 1) (n / 256)
unfolding little_endian
little_step zero n h = absurd (omega arith)
little_step (suc w) n h = let e : w ≡ suc w - 1 = omega arith in ap (λ (j : ℕ). n % 256 ∷ little_endian j (n / 256)) e
