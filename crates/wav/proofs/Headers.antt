-- The header's fields put down one behind the other are its bytes. Assumes nothing.
use Rattle.std.proofs.Common.{◌≡◌, ℕ, ◌*◌, ◌<◌, ◌≤◌, Bool, true, false, List, None, Some, length, replicate, pos, refl, mul-le-mul, arith, eq-eqb, ne_eqb, le-ltb, lt-ltb}
use lib.Ieee.{Float, binary64, of_int, eq}
use lib.Seq.{sets}
use Rattle.little_endian.specs.LowBytes.{little_endian}
use Rattle.little_endian.specs.Fields.{joined}
use Rattle.little_endian.specs.Fields.{fields_in}
use Rattle.wav.specs.Header.{is_large, parts_of, header_bytes, widths_of, numbers_of, whole_rate}
use Rattle.floats.specs.WholeIs.{whole_is}
use Rattle.floats.specs.Floats.{index}

laid : (b : Bool) (c r n : ℕ) → sets (replicate 94 0) 0 (fields_in 94 (widths_of b) (numbers_of b c r n)) ≡ joined (parts_of b c r n)
unfolding fields_in widths_of numbers_of parts_of joined little_endian
laid true c r n = refl
laid false c r n = refl

pub header_laid : (b : Bool) (c r n : ℕ) (o ws ns : List ℕ) → b ≡ is_large c n → o ≡ replicate 94 0 → ws ≡ widths_of b → ns ≡ numbers_of b c r n → sets o 0 (fields_in (length o) ws ns) ≡ header_bytes c r n
unfolding header_bytes
header_laid b c r n o ws ns e p q s = rw (p, q, s, ← e) (laid b c r n)

-- a count of 32 bits times the bytes of a frame
pub product : (a b : ℕ) → a < 4294967296 → b < 1024 → a * b < 4398046511104
product a b h k =
    let p : a ≤ 4294967295 = omega arith in
    let q : b ≤ 1023 = omega arith in
    let z = mul-le-mul p q in
    omega arith

-- ---- a whole rate
module _ (x : Float) (n : ℕ) (e : n ≡ index x) where
  pub rate-zero : n ≡ 0 → None ≡ whole_rate x
  unfolding whole_rate
  rate-zero z = rw (← e, eq-eqb n 0 z)

  module _ (some : n ≡ 0 → ⊥) where
    pub rate-cut : 4294967295 < n → None ≡ whole_rate x
    unfolding whole_rate
    rate-cut h = rw (← e, ne_eqb n 0 some, lt-ltb 4294967295 n h)

    module _ (h : n ≤ 4294967295) (f : Float) (g : f ≡ of_int binary64 (pos n)) where
      pub rate-whole : eq f x ≡ true → Some n ≡ whole_rate x
      unfolding whole_rate
      rate-whole t = rw (← e, ne_eqb n 0 some, le-ltb 4294967295 n h, whole_is n, ← g, t)

      pub rate-other : eq f x ≡ false → None ≡ whole_rate x
      unfolding whole_rate
      rate-other t = rw (← e, ne_eqb n 0 some, le-ltb 4294967295 n h, whole_is n, ← g, t)
