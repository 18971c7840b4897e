-- The pool that clips read. Of a file: where its samples stand. A WAV's chunks are a name, a length and so many bytes, filled up to an even number; a file that is no RIFF is all samples. They run.
use Rattle.std.specs.Prelude.{ℕ, zero, suc, ◌+◌, ◌%◌, ◌≡◌, refl, Bool, true, false, ◌&&◌, ◌||◌, cond, List, [], ◌∷◌, ◌++◌, eqb, ltb, length, drop, Float, Option, None, Some}
use Rattle.listing.specs.Ascii.{ascii}
use Rattle.tape.specs.Fields.{field, from_little_endian}
use Rattle.tape.specs.Pool.{trail_pool}
use Rattle.pool_file.specs.declared.Place.{Place}

-- names as the little-endian numbers that their letters are
abbrev pub riff : ℕ
riff = 0x4646_4952

abbrev pub format : ℕ
format = 0x2074_6D66

abbrev pub data' : ℕ
data' = 0x6174_6164

abbrev pub option : ℕ
option = 0x6C6F_6F70_2D2D

pub names : (field (ascii "RIFF") 0 4 ≡ riff) × (field (ascii "fmt ") 0 4 ≡ format) × (field (ascii "data") 0 4 ≡ data') × (field (ascii "--pool") 0 6 ≡ option)
unfolding field from_little_endian
names = (refl, refl, refl, refl)

-- the argument behind which the file's name stands
unfoldable pub is_option : (argument : List ℕ) → Bool
is_option a = eqb (length a) 6 && eqb (field a 0 6) option

-- the option's line of a usage
abbrev pub option_line : List ℕ
option_line = ascii "Clips read from FILE, a WAV of one channel of 32-bit floats or a file of such samples; without it, from document 01's pool.\n"

-- whether the format at a place is one channel of IEEE floats of 32 bits: by its number, 3, or in the long form, FFFE, by that of its kind
unfoldable pub mono_float : (file : List ℕ) → (at : ℕ) → Bool
mono_float file at =
    eqb (field file (at + 2) 2) 1 && (eqb (field file (at + 14) 2) 32 && eqb (cond (eqb (field file at 2) 0xFFFE) (field file (at + 24) 2) (field file at 2)) 3)

-- whether it is known behind the chunk at a place
unfoldable pub known_by : (file : List ℕ) → (at : ℕ) → (known : Bool) → Bool
unfolding mono_float
known_by file at known = cond (eqb (field file at 4) format) (mono_float file (at + 8)) known

-- the chunk `data`, from a chunk at a place on, where the format is known, by the last chunk `fmt ` before it. A chunk whose first 8 bytes are not all at hand, or begin behind 65,536, is not looked at.
unfoldable pub data_from : (turns : ℕ) → (file : List ℕ) → (at : ℕ) → (known : Bool) → Option Place
unfolding known_by
data_from zero file at known = None
data_from (suc k) file at known =
    let size = field file (at + 4) 4 in
    let next = data_from k file (at + 8 + size + size % 2) (known_by file at known) in
    cond (ltb 65_536 at || ltb (length file) (at + 8)) None (cond (eqb (field file at 4) data') (cond known (Some (record { from = at + 8; size = size })) None) next)

unfoldable pub place_of : (file : List ℕ) → Option Place
unfolding data_from
place_of file = cond (eqb (field file 0 4) riff) (data_from (length file) file 12 false) (Some (record { from = 0; size = 18_446_744_073_709_551_615 }))

-- computed: a chunk `data` of 8 bytes, where the format is known and where it is not; where its size is cut, it is not looked at
pub cut_chunk :
    (data_from 24 (ascii "RIFF....WAVEdata" ++ (8 ∷ 0 ∷ 0 ∷ 0 ∷ [])) 12 true ≡ Some (record { from = 20; size = 8 }))
    × (place_of (ascii "RIFF....WAVEdata" ++ (8 ∷ 0 ∷ 0 ∷ 0 ∷ [])) ≡ None)
    × (data_from 24 (ascii "RIFF....WAVEdata" ++ (8 ∷ 0 ∷ [])) 12 true ≡ None)
    × (place_of (ascii "RIFF....WAVEdata" ++ (8 ∷ 0 ∷ [])) ≡ None)
unfolding place_of data_from known_by mono_float field from_little_endian
cut_chunk = (refl, refl, refl, refl)

-- document 01's pool at the front of a pool that has room for its 4,096 samples
unfoldable pub trail_loaded : (room : ℕ) → Option ℕ
trail_loaded room = cond (ltb room 4_096) None (Some 4_096)

unfoldable pub with_trail_pool : (pool : List Float) → List Float
with_trail_pool pool = cond (ltb (length pool) 4_096) pool (trail_pool ++ drop 4_096 pool)
