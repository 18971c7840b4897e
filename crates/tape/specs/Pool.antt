-- Document 01's pool of `trail`: 4,096 samples, sample k, counted from 0, being k/4096. Assumes nothing.
use Rattle.std.specs.Prelude.{◌≡◌, ℕ, zero, suc, false, List, [], ◌∷◌, length, take, drop, pos, negsuc, refl, Float}
use Rattle.std.specs.Float.{fin}
use Rattle.std.specs.Float.Ieee.{div, round}
use Rattle.floats.specs.Arithmetic.{◌÷ᵈ◌, whole}
use Rattle.floats.specs.Floats.{narrowed}

abbrev pub pool_sample : (k : ℕ) → Float
pool_sample k = narrowed (whole k ÷ᵈ whole 4_096)

-- n samples from sample k on
unfoldable pub pool_from : (k n : ℕ) → List Float
pool_from k zero = []
pool_from k (suc n) = pool_sample k ∷ pool_from (suc k) n

unfoldable pub trail_pool : List Float
unfolding pool_from
trail_pool = pool_from 0 4_096

-- ---- 0, 1/4096 and 4095/4096
pub sample-0 : pool_sample 0 ≡ fin false 0 (pos 0)
unfolding narrowed whole div round
sample-0 = refl

pub sample-1 : pool_sample 1 ≡ fin false 1 (negsuc 11)
unfolding narrowed whole div round
sample-1 = refl

pub sample-4095 : pool_sample 4_095 ≡ fin false 4_095 (negsuc 11)
unfolding narrowed whole div round
sample-4095 = refl

-- 4,096 samples, from 0 and 1/4096 up to 4095/4096
pub pool-ends : (length trail_pool ≡ 4_096) × (take 2 trail_pool ≡ fin false 0 (pos 0) ∷ fin false 1 (negsuc 11) ∷ []) × (drop 4_095 trail_pool ≡ fin false 4_095 (negsuc 11) ∷ [])
unfolding trail_pool pool_from narrowed whole div round
pool-ends = (refl, refl, refl)
