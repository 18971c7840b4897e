-- Document 01's example tape on the plain ledger: the bytes that it renders, and where the room ends. Assumes nothing.
use Rattle.std.specs.Prelude.{◌≡◌, refl, List, [], ◌∷◌, ◌++◌, ℕ, take, drop}
use Rattle.ledger.specs.Computes.{computes}
use Rattle.tape.specs.Example.{example}
use Rattle.tape.specs.Fields.{field, from_little_endian}
use Rattle.tape.specs.Tape.{record_of, unknown, push_kind, size_of, call_of, push_of, source_of}
use Rattle.render.specs.Rendering.{rendered_with, rendered}

-- the block's samples 3F800000 and 00000000
abbrev block_bytes : List ℕ
block_bytes = 0x00 ∷ 0x00 ∷ 0x80 ∷ 0x3f ∷ 0 ∷ 0 ∷ 0 ∷ 0 ∷ []

-- and the tick's, 00000000
pub whole-example : rendered example 12 ≡ 0x00 ∷ 0x00 ∷ 0x80 ∷ 0x3f ∷ 0 ∷ 0 ∷ 0 ∷ 0 ∷ 0 ∷ 0 ∷ 0 ∷ 0 ∷ []
unfolding computes rendered_with record_of unknown push_kind size_of call_of push_of source_of field from_little_endian
whole-example = refl

-- the tick does not fit
pub cut-example : rendered example 11 ≡ block_bytes
unfolding computes rendered_with record_of unknown push_kind size_of call_of push_of source_of field from_little_endian
cut-example = refl

-- nor does the block: nothing is written, though the tick alone would fit
pub empty-example : rendered example 7 ≡ []
unfolding computes rendered_with record_of unknown push_kind size_of call_of push_of source_of field from_little_endian
empty-example = refl

-- Paper 5: the same tape, its push as 0A with a gain of 0.5, 3F000000: the block's samples are 3F000000 and 00000000
abbrev gain_tape : List ℕ
gain_tape = take 20 example ++ (0x0a ∷ take 42 (drop 21 example) ++ (0 ∷ 0 ∷ 0x00 ∷ 0x3f ∷ drop 63 example))

pub gain_example : rendered gain_tape 12 ≡ 0x00 ∷ 0x00 ∷ 0x00 ∷ 0x3f ∷ 0 ∷ 0 ∷ 0 ∷ 0 ∷ 0 ∷ 0 ∷ 0 ∷ 0 ∷ []
unfolding computes rendered_with record_of unknown push_kind size_of call_of push_of source_of field from_little_endian
gain_example = refl
