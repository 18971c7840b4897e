-- A record's fields as the code puts them: widths, and as many numbers. A gain that is not there has the width 0. Assumes nothing.
use Rattle.std.specs.Prelude.{ℕ, Bool, true, false, cond, ◌≡◌, refl, [], ◌∷◌}
use Rattle.little_endian.specs.LowBytes.{little_endian}
use Rattle.little_endian.specs.Fields.{fields_of, joined, byte, word, long}

-- ---- the same bytes as those of the fields that are there: of a creation, a push, an edit, a tick or reset, a block and a rate
pub creation-joined : (k c m n : ℕ) → fields_of (1 ∷ 1 ∷ 1 ∷ 8 ∷ []) (k ∷ c ∷ m ∷ n ∷ []) ≡ joined (byte k ∷ byte c ∷ byte m ∷ long n ∷ [])
unfolding joined fields_of little_endian
creation-joined k c m n = refl

pub push-joined : (k s e f g c o v w x : ℕ) (gains : Bool)
    → fields_of (1 ∷ 8 ∷ 8 ∷ 8 ∷ 8 ∷ 1 ∷ 1 ∷ 4 ∷ 4 ∷ cond gains 4 0 ∷ []) (k ∷ s ∷ e ∷ f ∷ g ∷ c ∷ o ∷ v ∷ w ∷ x ∷ [])
    ≡ joined (byte k ∷ long s ∷ long e ∷ long f ∷ long g ∷ byte c ∷ byte o ∷ word v ∷ word w ∷ cond gains (word x ∷ []) [])
unfolding joined fields_of little_endian
push-joined k s e f g c o v w x true = refl
push-joined k s e f g c o v w x false = refl

pub edit-joined : (k n e f : ℕ) → fields_of (1 ∷ 8 ∷ 8 ∷ 8 ∷ []) (k ∷ n ∷ e ∷ f ∷ []) ≡ joined (byte k ∷ long n ∷ long e ∷ long f ∷ [])
unfolding joined fields_of little_endian
edit-joined k n e f = refl

pub bare-joined : (k : ℕ) → fields_of (1 ∷ []) (k ∷ []) ≡ joined (byte k ∷ [])
unfolding joined fields_of little_endian
bare-joined k = refl

pub block-joined : (k n : ℕ) → fields_of (1 ∷ 1 ∷ []) (k ∷ n ∷ []) ≡ joined (byte k ∷ byte n ∷ [])
unfolding joined fields_of little_endian
block-joined k n = refl

pub rate-joined : (k r : ℕ) → fields_of (1 ∷ 8 ∷ []) (k ∷ r ∷ []) ≡ joined (byte k ∷ long r ∷ [])
unfolding joined fields_of little_endian
rate-joined k r = refl
