-- The header of a WAV file of 32-bit float samples. Below 4 GB: RIFF, the format (IEEE float), the count of frames (fact), a chunk JUNK that readers pass over, and the data's size. From there on it is an RF64 (EBU Tech 3306): ds64, in JUNK's
-- stead and before the format, has the sizes, and the sizes of 32 bits are all ones. Both take 94 bytes. Assumes nothing.
use Rattle.std.specs.Prelude.{ℕ, ◌+◌, ◌*◌, Bool, true, false, cond, Option, None, Some, List, [], ◌∷◌, ◌++◌, ◌==◌, nat_le, nat_lt, Float}
use Rattle.floats.specs.Arithmetic.{whole, ◌≈ᶠ◌}
use Rattle.floats.specs.Floats.{index}
use Rattle.little_endian.specs.Fields.{Part, word, long, joined}

-- a field of two bytes
abbrev pub short : ℕ → Part
short n = record { width = 2; number = n }

-- a chunk's or form's name: its four letters' codes, the first the lowest
abbrev pub RIFF : ℕ
RIFF = 0x46464952

abbrev pub RF64 : ℕ
RF64 = 0x34364652

abbrev pub WAVE : ℕ
WAVE = 0x45564157

abbrev pub JUNK : ℕ
JUNK = 0x4B4E554A

abbrev pub ds64 : ℕ
ds64 = 0x34367364

abbrev pub fmt : ℕ
fmt = 0x20746D66

abbrev pub fact : ℕ
fact = 0x74636166

abbrev pub data_name : ℕ
data_name = 0x61746164

-- four bytes a sample
abbrev pub align_of : (channels : ℕ) → ℕ
align_of channels = channels * 4

abbrev pub data_size : (channels frames : ℕ) → ℕ
data_size channels frames = frames * align_of channels

-- the file without its first 8 bytes: the rest of the header, and the data
abbrev pub file_size : (channels frames : ℕ) → ℕ
file_size channels frames = data_size channels frames + 86

-- too long for sizes of 32 bits, of which all ones is none
abbrev pub is_large : (channels frames : ℕ) → Bool
is_large channels frames = nat_le 4294967295 (file_size channels frames)

-- the chunk of the format: IEEE float, 32 bits, nothing more; and that of the count of frames
abbrev pub format_parts : (channels rate frames : ℕ) → List Part
format_parts c r n =
    word fmt ∷ word 18 ∷ short 3 ∷ short c ∷ word r ∷ word (r * align_of c) ∷ short (align_of c) ∷ short 32 ∷ short 0 ∷ word fact ∷ word 4 ∷ word n ∷ []

-- the sizes in 64 bits and an empty table, under the name ds64, or JUNK where nobody is to read them
abbrev pub size_parts : (name channels frames : ℕ) → List Part
size_parts name c n = word name ∷ word 28 ∷ long (file_size c n) ∷ long (data_size c n) ∷ long n ∷ word 0 ∷ []

-- ds64 is the first chunk of an RF64; a RIFF begins with the format
unfoldable pub parts_of : (large : Bool) → (channels rate frames : ℕ) → List Part
parts_of true c r n = word RF64 ∷ word 4294967295 ∷ word WAVE ∷ (size_parts ds64 c n ++ (format_parts c r n ++ (word data_name ∷ word 4294967295 ∷ [])))
parts_of false c r n = word RIFF ∷ word (file_size c n) ∷ word WAVE ∷ (format_parts c r n ++ (size_parts JUNK c n ++ (word data_name ∷ word (data_size c n) ∷ [])))

unfoldable pub header_bytes : (channels rate frames : ℕ) → List ℕ
unfolding parts_of joined
header_bytes c r n = joined (parts_of (is_large c n) c r n)

-- ---- as the code holds them

unfoldable pub widths_of : (large : Bool) → List ℕ
widths_of true = 4 ∷ 4 ∷ 4 ∷ 4 ∷ 4 ∷ 8 ∷ 8 ∷ 8 ∷ 4 ∷ 4 ∷ 4 ∷ 2 ∷ 2 ∷ 4 ∷ 4 ∷ 2 ∷ 2 ∷ 2 ∷ 4 ∷ 4 ∷ 4 ∷ 4 ∷ 4 ∷ []
widths_of false = 4 ∷ 4 ∷ 4 ∷ 4 ∷ 4 ∷ 2 ∷ 2 ∷ 4 ∷ 4 ∷ 2 ∷ 2 ∷ 2 ∷ 4 ∷ 4 ∷ 4 ∷ 4 ∷ 4 ∷ 8 ∷ 8 ∷ 8 ∷ 4 ∷ 4 ∷ 4 ∷ []

unfoldable pub numbers_of : (large : Bool) → (channels rate frames : ℕ) → List ℕ
numbers_of true c r n =
    RF64 ∷ 4294967295 ∷ WAVE ∷ ds64 ∷ 28 ∷ file_size c n ∷ data_size c n ∷ n ∷ 0
    ∷ fmt ∷ 18 ∷ 3 ∷ c ∷ r ∷ r * align_of c ∷ align_of c ∷ 32 ∷ 0 ∷ fact ∷ 4 ∷ n ∷ data_name ∷ 4294967295 ∷ []
numbers_of false c r n =
    RIFF ∷ file_size c n ∷ WAVE ∷ fmt ∷ 18 ∷ 3 ∷ c ∷ r ∷ r * align_of c ∷ align_of c ∷ 32 ∷ 0 ∷ fact ∷ 4 ∷ n
    ∷ JUNK ∷ 28 ∷ file_size c n ∷ data_size c n ∷ n ∷ 0 ∷ data_name ∷ data_size c n ∷ []

-- a rate that is a whole number from 1 on and below 2^32
unfoldable pub whole_rate : Float → Option ℕ
whole_rate x = cond (index x == 0) None (cond (nat_lt 4294967295 (index x)) None (cond (whole (index x) ≈ᶠ x) (Some (index x)) None))
