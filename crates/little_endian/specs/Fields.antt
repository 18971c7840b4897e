-- Numbers as little-endian fields, one behind the other. Assumes nothing.
use Rattle.std.specs.Prelude.{ℕ, ◌-◌, ◌≤◌, cond, ◌≡◌, refl, List, [], ◌∷◌, ◌++◌, ltb, Float, length}
use Rattle.std.proofs.Common.{arith, ap, le-ltb, length-append}
use Rattle.std.specs.Float.{binary32, binary64}
use Rattle.std.specs.Float.Ieee.{to_bits}
use Rattle.little_endian.specs.LowBytes.{little_endian, length_little}

-- a field: a number in so many bytes
pub record Part : Type 0 where
  pub width : ℕ
  pub number : ℕ

abbrev pub byte : ℕ → Part
byte n = record { width = 1; number = n }

abbrev pub word : ℕ → Part
word n = record { width = 4; number = n }

abbrev pub long : ℕ → Part
long n = record { width = 8; number = n }

-- a float's field: its bits
abbrev pub single : Float → Part
single x = word (to_bits binary32 x)

abbrev pub double : Float → Part
double x = long (to_bits binary64 x)

unfoldable pub joined : List Part → List ℕ
joined [] = []
joined (p ∷ ps) = little_endian p.width p.number ++ joined ps

-- ---- as code holds them: widths, and as many numbers
unfoldable pub fields_of : (widths numbers : List ℕ) → List ℕ
fields_of [] ns = []
fields_of (w ∷ ws) [] = []
fields_of (w ∷ ws) (n ∷ ns) = little_endian w n ++ fields_of ws ns

-- the fields up to the first that does not fit in the room left
unfoldable pub fields_in : (room : ℕ) (widths numbers : List ℕ) → List ℕ
fields_in room [] ns = []
fields_in room (w ∷ ws) [] = []
fields_in room (w ∷ ws) (n ∷ ns) = cond (ltb room w) [] (little_endian w n ++ fields_in (room - w) ws ns)

-- where there is room, all of them
pub all_fit : (room : ℕ) (ws ns : List ℕ) → length (fields_of ws ns) ≤ room → fields_in room ws ns ≡ fields_of ws ns
unfolding fields_of fields_in
all_fit room [] ns h = refl
all_fit room (w ∷ ws) [] h = refl
all_fit room (w ∷ ws) (n ∷ ns) h =
    let l = length-append (little_endian w n) (fields_of ws ns) in
    let k = length_little w n in
    let fits : w ≤ room = omega arith in
    let rest : length (fields_of ws ns) ≤ room - w = omega arith in
    rw (le-ltb room w fits) (ap (λ (l : List ℕ). little_endian w n ++ l) (all_fit (room - w) ws ns rest))

-- ---- computed

-- 1 in two bytes and 0102 in two: the lowest byte first
pub two_fields : fields_in 5 (2 ∷ 2 ∷ []) (1 ∷ 0x0102 ∷ []) ≡ 1 ∷ 0 ∷ 2 ∷ 1 ∷ []
unfolding fields_in little_endian
two_fields = refl

-- the second does not fit in one byte, and the third is not looked at
pub cut_fields : fields_in 3 (2 ∷ 2 ∷ 1 ∷ []) (1 ∷ 0x0102 ∷ 7 ∷ []) ≡ 1 ∷ 0 ∷ []
unfolding fields_in little_endian
cut_fields = refl
