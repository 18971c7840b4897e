-- Listings by computation: document 01's example tape, an empty tape, tapes that stop, and lines without samples. Assumes nothing.
use Rattle.std.specs.Prelude.{◌≡◌, refl, List, [], ◌∷◌, ◌++◌, ℕ, take, drop, replicate}
use Rattle.std.specs.Float.Ieee.{to_bits}
use Rattle.floats.specs.Floats.{narrowed}
use Rattle.ledger.specs.Computes.{computes}
use Rattle.listing.specs.Ascii.{ascii}
use Rattle.listing.specs.Text.{digits, places_of, decimal, counts_line, samples_from, samples_line}
use Rattle.tape.specs.Example.{example}
use Rattle.tape.specs.Pool.{pool_from, trail_pool}
use Rattle.tape.specs.Fields.{field, from_little_endian}
use Rattle.tape.specs.Tape.{record_of, unknown, push_kind, size_of, call_of, push_of, edit_of, source_of}
use Rattle.tape_listing.specs.Listing.{listed_with, listed}
use Rattle.tape_listing.specs.Calls.{tape_of}

-- what a case must unfold
unfoldable reads : Unit {0}
unfolding computes listed_with record_of unknown push_kind size_of call_of push_of edit_of source_of field from_little_endian
reads = tt

unfoldable prints : Unit {0}
unfolding counts_line samples_line samples_from decimal digits places_of to_bits
prints = tt

-- document 01's example listing
abbrev first_lines : List ℕ
first_lines = ascii "00 0 0 0 0 0\n09 0 0 0 0 0\n01 0 1 0 0 0\n"

abbrev example_listing : List ℕ
example_listing = first_lines ++ ascii "07 0 0 1 0 0\n3F800000 00000000\n06 0 0 0 1 0\n00000000\n"

pub whole-example : listed example ≡ example_listing
unfolding reads prints
whole-example = refl

-- "An empty tape prints no line."
pub empty_tape : listed [] ≡ []
unfolding listed_with
empty_tape = refl

-- cut in the block's body: 15, "counts as before", "a missing body prints its kind"
pub cut-example : listed (take 64 example) ≡ first_lines ++ ascii "07 15 1 0 0 0\n"
unfolding reads prints
cut-example = refl

-- The same tape with two channels, in mode None, its source the clip of one sample at place 4, and one tick more: a line for each channel, 4/4096, and the
-- event is let go.
abbrev clip_tape : List ℕ
clip_tape = (0x00 ∷ 0x02 ∷ 0x01 ∷ take 51 (drop 3 example)) ++ (0x02 ∷ 0x04 ∷ 0 ∷ 0 ∷ 0 ∷ 0x01 ∷ 0 ∷ 0 ∷ 0 ∷ drop 63 example) ++ (0x06 ∷ [])

pub clip-example : listed clip_tape
    ≡ first_lines ++ ascii "07 0 0 1 0 0\n3A800000 00000000\n3A800000 00000000\n06 0 0 0 1 0\n00000000\n00000000\n06 0 0 0 0 1\n00000000\n00000000\n"
unfolding reads prints trail_pool pool_from narrowed
clip-example = refl

-- a later 00: 14, which precedes 15
pub later-creation : listed (take 63 example ++ (0x00 ∷ [])) ≡ first_lines ++ ascii "00 14 1 0 0 0\n"
unfolding reads prints
later-creation = refl

-- 1: nine channels; the tick behind it is not read
pub refused-creation : listed (0x00 ∷ 0x09 ∷ 0x00 ∷ 0x01 ∷ 0 ∷ 0 ∷ 0 ∷ 0 ∷ 0 ∷ 0 ∷ 0 ∷ 0x06 ∷ []) ≡ ascii "00 1 0 0 0 0\n"
unfolding reads prints
refused-creation = refl

-- "n = 0: empty lines", one for each of two channels; 11, a block of 65, has none and stops nothing
pub empty_lines : listed (0x00 ∷ 0x02 ∷ 0x00 ∷ 0x01 ∷ 0 ∷ 0 ∷ 0 ∷ 0 ∷ 0 ∷ 0 ∷ 0 ∷ 0x07 ∷ 0x00 ∷ 0x07 ∷ 0x41 ∷ 0x06 ∷ [])
    ≡ ascii "00 0 0 0 0 0\n07 0 0 0 0 0\n\n\n07 11 0 0 0 0\n06 0 0 0 0 0\n00000000\n00000000\n"
unfolding reads prints
empty_lines = refl

-- the other kinds: two pushes of the same body, two edits of event 1, end and fade-out 0.0, and a reset
abbrev other_kinds : List ℕ
other_kinds =
    let body : List ℕ = take 42 (drop 21 example) in
    let edit : List ℕ = 0x01 ∷ replicate 23 0 in
    take 11 example ++ (0x02 ∷ body ++ (0x03 ∷ body ++ (0x04 ∷ edit ++ (0x05 ∷ edit ++ (0x08 ∷ [])))))

pub other-kinds : listed other_kinds ≡ ascii "00 0 0 0 0 0\n02 0 1 0 0 0\n03 0 2 0 0 0\n04 0 2 0 0 0\n05 0 2 0 0 0\n08 0 2 0 0 0\n"
unfolding reads prints
other-kinds = refl

-- three reads; one that gives no byte is the tape's end
pub reads_as_tape : tape_of ((0x00 ∷ []) ∷ (0x01 ∷ 0x02 ∷ []) ∷ [] ∷ (0x03 ∷ []) ∷ []) ≡ 0x00 ∷ 0x01 ∷ 0x02 ∷ []
reads_as_tape = refl
