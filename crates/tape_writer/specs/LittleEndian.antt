-- A number's bytes are read as the number, and bytes as a number are put down as they stood: two laws for every width. Assumes nothing.
use Rattle.std.specs.Prelude.{◌≡◌, refl, List, [], ◌∷◌, ℕ, zero, suc, ◌+◌, ◌*◌, ◌/◌, ◌%◌, ◌^◌, ◌≤◌, ◌<◌, length, take}
use Rattle.std.proofs.Common.{ap, ◌∙◌, div-lt_iff_lt-mul, le_of_suc-le-suc, arith, lit<}
use Rattle.std.proofs.Math.Nat.{mod-add-div}
use Rattle.tape.specs.Fields.{from_little_endian, Bytes, bytes_tail}
use Rattle.little_endian.specs.LowBytes.{little_endian}

-- ---- put down, then read
higher_below : (w n : ℕ) → n < 256 ^ suc w → n / 256 < 256 ^ w
higher_below w n h = (div-lt_iff_lt-mul (lit< tt)).1 (omega (arith, h))

pub le_bytes : (w n : ℕ) → n < 256 ^ w → from_little_endian (little_endian w n) ≡ n
unfolding from_little_endian little_endian
le_bytes zero n h = omega arith
le_bytes (suc w) n h = ap (λ (m : ℕ). n % 256 + 256 * m) (le_bytes w (n / 256) (higher_below w n h)) ∙ mod-add-div n 256

-- ---- read, then put down
low_byte : (b m : ℕ) → b < 256 → (b + 256 * m) % 256 ≡ b
low_byte b m h = omega arith

high_bytes : (b m : ℕ) → b < 256 → (b + 256 * m) / 256 ≡ m
high_bytes b m h = omega arith

pub bytes_le : (w : ℕ) (bs : List ℕ) → Bytes bs → w ≤ length bs → little_endian w (from_little_endian (take w bs)) ≡ take w bs
unfolding from_little_endian little_endian
bytes_le zero bs h l = refl
bytes_le (suc w) [] h l = absurd (omega arith)
bytes_le (suc w) (b ∷ bs) h l =
    let p = h 0 in
    let ih = bytes_le w bs (bytes_tail b bs h) (le_of_suc-le-suc l) in
    rw (low_byte b (from_little_endian (take w bs)) p, high_bytes b (from_little_endian (take w bs)) p, ih)
