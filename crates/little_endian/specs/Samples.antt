-- Samples as bytes: four little-endian bytes a sample. Assumes nothing.
use Rattle.std.specs.Prelude.{◌≡◌, refl, false, List, [], ◌∷◌, ◌++◌, ℕ, ◌+◌, ◌*◌, ◌≤◌, ◌<◌, Float, pos, length, get_or, drop}
use Rattle.std.proofs.Common.{sym, ap, ◌∙◌, append_assoc, add-one, arith, le-leb, length-append, drop-cons}
use Rattle.std.specs.Float.{nan, fin, binary32}
use Rattle.std.specs.Float.Ieee.{to_bits}
use Rattle.std.proofs.lemmas.List.Edits.{sets}
use Rattle.listing.specs.Pieces.{text, add}
use Rattle.little_endian.specs.LowBytes.{little_endian, length_little}

-- a NaN's bits are 7FC00000
abbrev pub sample_bytes : Float → List ℕ
sample_bytes x = little_endian 4 (to_bits binary32 x)

unfoldable pub bytes_of : List Float → List ℕ
unfolding little_endian to_bits
bytes_of [] = []
bytes_of (x ∷ xs) = sample_bytes x ++ bytes_of xs

-- ---- laws
pub length_sample : (x : Float) → length (sample_bytes x) ≡ 4
length_sample x = length_little 4 (to_bits binary32 x)

pub length_bytes : (xs : List Float) → length (bytes_of xs) ≡ 4 * length xs
unfolding bytes_of
length_bytes [] = refl
length_bytes (x ∷ xs) =
    let p = length_sample x in
    let q = length_bytes xs in
    omega (arith, length-append (sample_bytes x) (bytes_of xs))

pub bytes_append : (xs ys : List Float) → bytes_of (xs ++ ys) ≡ bytes_of xs ++ bytes_of ys
unfolding bytes_of
bytes_append [] ys = refl
bytes_append (x ∷ xs) ys = ap (λ (l : List ℕ). sample_bytes x ++ l) (bytes_append xs ys) ∙ sym (append_assoc (sample_bytes x) (bytes_of xs) (bytes_of ys))

pub bytes_step : (xs : List Float) (i : ℕ) → i < length xs → bytes_of (drop i xs) ≡ sample_bytes (get_or xs i nan) ++ bytes_of (drop (i + 1) xs)
unfolding bytes_of
bytes_step xs i h = ap bytes_of (drop-cons xs i nan h) ∙ ap (λ (j : ℕ). sample_bytes (get_or xs i nan) ++ bytes_of (drop j xs)) (sym (add-one i))

-- a piece that has room is put, and the next free place is behind it
pub put_there : (piece out out' : List ℕ) (at at' : ℕ) → text out' at' ≡ add piece (text out at) → at + length piece ≤ length out → (out' ≡ sets out at piece) × (at' ≡ at + length piece)
unfolding add
put_there piece out out' at at' e room =
    let p : text out' at' ≡ text (sets out at piece) (at + length piece) = rw (le-leb (at + length piece) (length out) room) at e in
    (ap (λ t. t.out) p, ap (λ t. t.at) p)

-- ---- computed: 1 is 3F800000, and a NaN's bits
pub two_samples : bytes_of (fin false 1 (pos 0) ∷ nan ∷ []) ≡ 0 ∷ 0 ∷ 0x80 ∷ 0x3F ∷ 0 ∷ 0 ∷ 0xC0 ∷ 0x7F ∷ []
unfolding bytes_of
two_samples = refl
