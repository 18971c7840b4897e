-- Document 01's example tape on the plain ledger: what it comes to, whole and cut. Assumes nothing.
use Rattle.std.specs.Prelude.{◌≡◌, true, [], take, refl}
use Rattle.floats.specs.Arithmetic.{whole}
use Rattle.ledger.specs.Computes.{computes}
use Rattle.tape.specs.Example.{example}
use Rattle.tape.specs.Fields.{field, from_little_endian}
use Rattle.tape.specs.Tape.{record_of, unknown, push_kind, size_of, call_of, push_of, source_of}
use Rattle.tape_extent.specs.Extents.{told, whole_extent, counts64, extent_of}

-- a block of two and a tick, of one channel, at 8 Hz
pub whole-example : extent_of [] example ≡ told 12 3 1 (whole 8) true 0
unfolding computes counts64 whole_extent record_of unknown push_kind size_of call_of push_of source_of field from_little_endian
whole-example = refl

-- without the tick
pub shorter_example : extent_of [] (take 65 example) ≡ told 8 2 1 (whole 8) true 0
unfolding computes counts64 whole_extent record_of unknown push_kind size_of call_of push_of source_of field from_little_endian
shorter_example = refl

-- cut inside the block: 15, and no samples
pub cut-example : extent_of [] (take 64 example) ≡ told 0 0 1 (whole 44_100) true 15
unfolding computes counts64 whole_extent record_of unknown push_kind size_of call_of push_of source_of field from_little_endian
cut-example = refl
