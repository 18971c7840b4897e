-- Document 01's listing: lines of records and of channels, by computation. Assumes nothing.
use Rattle.std.specs.Prelude.{◌-◌, ◌^◌, ◌≡◌, refl, true, false, [], ◌∷◌, pos, negsuc}
use Rattle.std.specs.Float.{inf, fin}
use Rattle.std.specs.Float.Ieee.{to_bits}
use Rattle.listing.specs.Text.{digits, places_of, decimal, counts_line, samples_from, samples_line}
use Rattle.listing.specs.Putting.{put, put_length}

-- ---- "Each record prints its kind (two upper-case hexadecimal digits), refusal or 0, waiting, sounding, finished, let go"

-- "A9 15 345 6 78 18446744073709551615" and "01 0 10 0 99 100"
pub count_lines :
    (counts_line 0xa9 15 345 6 78 (2 ^ 64 - 1) ≡ 65 ∷ 57 ∷ 32 ∷ 49 ∷ 53 ∷ 32 ∷ 51 ∷ 52 ∷ 53 ∷ 32 ∷ 54 ∷ 32 ∷ 55 ∷ 56 ∷ 32 ∷ 49 ∷ 56 ∷ 52 ∷ 52 ∷ 54 ∷ 55 ∷ 52 ∷ 52 ∷ 48 ∷ 55 ∷ 51 ∷ 55 ∷ 48 ∷ 57 ∷ 53 ∷ 53 ∷ 49 ∷ 54 ∷ 49 ∷ 53 ∷ 10 ∷ [])
    × (counts_line 1 0 10 0 99 100 ≡ 48 ∷ 49 ∷ 32 ∷ 48 ∷ 32 ∷ 49 ∷ 48 ∷ 32 ∷ 48 ∷ 32 ∷ 57 ∷ 57 ∷ 32 ∷ 49 ∷ 48 ∷ 48 ∷ 10 ∷ [])
unfolding counts_line decimal digits places_of
count_lines = (refl, refl)

-- ---- "a line per channel of its 1 or n samples' bits (eight such digits each, one space between) .. (n = 0: empty lines)": "3F800000 BDCCCCCD 7F800000" for 1, the f32 nearest to -0.1, and infinity.
pub sample_lines : (samples_line (fin false 1 (pos 0) ∷ fin true 13_421_773 (negsuc 26) ∷ inf false ∷ []) ≡ 51 ∷ 70 ∷ 56 ∷ 48 ∷ 48 ∷ 48 ∷ 48 ∷ 48 ∷ 32 ∷ 66 ∷ 68 ∷ 67 ∷ 67 ∷ 67 ∷ 67 ∷ 67 ∷ 68 ∷ 32 ∷ 55 ∷ 70 ∷ 56 ∷ 48 ∷ 48 ∷ 48 ∷ 48 ∷ 48 ∷ 10 ∷ []) × (samples_line [] ≡ 10 ∷ [])
unfolding samples_line samples_from digits to_bits
sample_lines = (refl, refl)

-- ---- a line is put at the front of a buffer that has room for it; one too short stays (DECISIONS, 37)
pub puts : put (1 ∷ 2 ∷ []) (7 ∷ 8 ∷ 9 ∷ []) ∷ put (1 ∷ 2 ∷ []) (7 ∷ 8 ∷ []) ∷ put (1 ∷ 2 ∷ []) (7 ∷ []) ∷ [] ≡ (1 ∷ 2 ∷ 9 ∷ []) ∷ (1 ∷ 2 ∷ []) ∷ (7 ∷ []) ∷ []
unfolding put
puts = refl

pub put-lengths : put_length (1 ∷ 2 ∷ []) (7 ∷ 8 ∷ 9 ∷ []) ∷ put_length (1 ∷ 2 ∷ []) (7 ∷ 8 ∷ []) ∷ put_length (1 ∷ 2 ∷ []) (7 ∷ []) ∷ [] ≡ 2 ∷ 2 ∷ 0 ∷ []
unfolding put_length
put-lengths = refl
