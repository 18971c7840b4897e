-- The arguments of the programs that make a page of a tape: TAPE, TAPE --pool FILE, or --pool FILE TAPE. They run.
use Rattle.std.specs.Prelude.{ℕ, ◌≡◌, refl, cond, List, [], eqb, Option, None, Some}
use Rattle.listing.specs.Ascii.{ascii}
use Rattle.tape.specs.Fields.{field, from_little_endian}
use Rattle.pool_file.specs.Pools.{is_option}
use Rattle.tape_pages.specs.declared.Places.{Places}

-- which argument names the tape, and which the pool's file, by how many words there are, the program's own among them, and the first two arguments
unfoldable pub places_of : (count : ℕ) → (a b : List ℕ) → Option Places
places_of count a b =
    cond (eqb count 2) (cond (is_option a) None (Some (record { tape = 1; pool = None })))
    (cond (eqb count 4)
    (cond (is_option a) (Some (record { tape = 3; pool = Some 2 })) (cond (is_option b) (Some (record { tape = 1; pool = Some 3 })) None))
    None)

-- ---- `x`; `x --pool y`; `--pool y x`; nothing; `--pool`; `x y`; `x --poll y`
pub cases :
    (places_of 2 (ascii "x") [] ≡ Some (record { tape = 1; pool = None }))
    × (places_of 4 (ascii "x") (ascii "--pool") ≡ Some (record { tape = 1; pool = Some 3 }))
    × (places_of 4 (ascii "--pool") (ascii "y") ≡ Some (record { tape = 3; pool = Some 2 }))
    × (places_of 1 [] [] ≡ None)
    × (places_of 2 (ascii "--pool") [] ≡ None)
    × (places_of 3 (ascii "x") (ascii "y") ≡ None)
    × (places_of 4 (ascii "x") (ascii "--poll") ≡ None)
unfolding places_of is_option field from_little_endian
cases = (refl, refl, refl, refl, refl, refl, refl)
