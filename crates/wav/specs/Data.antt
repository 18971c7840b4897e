-- The data of a whole WAV, by the tape's records on the plain ledger: the samples of the accepted ticks and blocks, interleaved, as bytes. No engine stands here. A WAV has one rate and at most 2^32 - 1 frames: `trail_wav` ends at another
-- rate, one that is no whole number, and where there would be more frames; its file has a front of this data then. Assumes nothing.
use Rattle.std.specs.Prelude.{◌≡◌, ℕ, zero, suc, true, cond, List, [], ◌∷◌, ◌++◌, length, drop, ◌==◌, refl, Float}
use Rattle.event.specs.declared.ReplayMode.TheVariants.{All}
use Rattle.ledger.specs.Ledger.{Ledger, fresh}
use Rattle.ledger.specs.Computes.{computes}
use Rattle.little_endian.specs.Samples.{bytes_of}
use Rattle.tape.specs.declared.reader.Call.{Call}
use Rattle.tape.specs.declared.reader.Cursor.{Cursor}
use Rattle.tape.specs.declared.reader.Read.{Read}
use Rattle.tape.specs.declared.reader.Read.TheVariants.{Record, Refused, End}
use Rattle.tape.specs.Example.{example}
use Rattle.tape.specs.Fields.{field, from_little_endian}
use Rattle.tape.specs.Pool.{trail_pool}
use Rattle.tape.specs.Tape.{read_at, record_of, unknown, push_kind, size_of, call_of, push_of, source_of}
use Rattle.tape_extent.specs.Extents.{frames_of}
use Rattle.tape_extent.specs.Playing.{Played, play}
use Rattle.wav.specs.Frames.{frame_at, frames_from}

-- a record's samples, which stand channel after channel, interleaved
unfoldable pub record_data : Call → Played → List ℕ
unfolding frames_from bytes_of
record_data call p =
    let n = frames_of call p in
    bytes_of (frames_from p.ledger.channels n n p.samples 0)

-- the rest of the data: from a ledger and a cursor on
abbrev pub Rest : Type 0
Rest = Ledger → Cursor → List ℕ

-- refusal 1 ends it
unfoldable pub after_record : Rest → Call → Played → (next : Cursor) → List ℕ
unfolding record_data
after_record rest call p next = cond (p.refusal == 1) [] (record_data call p ++ rest p.ledger next)

-- 14, 15 and the tape's end end it
unfoldable pub after_read : (pool : List Float) → Rest → Read → Ledger → List ℕ
unfolding after_record play
after_read pool rest (Record kind call next) l = after_record rest call (play pool l call) next
after_read pool rest (Refused kind number) l = []
after_read pool rest End l = []

-- at most f records
unfoldable pub data_from : (pool : List Float) → (tape : List ℕ) → (f : ℕ) → Rest
unfolding after_read read_at
data_from pool tape zero l c = []
data_from pool tape (suc f) l c = after_read pool (data_from pool tape f) (read_at tape c) l

-- A tape has no more records than bytes. Its first record, 00, replaces the ledger that stands here before it.
unfoldable pub tape_data : (pool : List Float) → (tape : List ℕ) → List ℕ
unfolding data_from fresh
tape_data pool tape = data_from pool tape (length tape) (fresh 1 All 1) (record { at = 0; first = true })

-- ---- computed: document 01's example tape with three channels. The block's samples are 3F800000 and 00000000, the tick's is 00000000, in each channel.
abbrev three_channels : List ℕ
three_channels = 0x00 ∷ 0x03 ∷ drop 2 example

pub three_channels_lem : tape_data trail_pool three_channels ≡
    0 ∷ 0 ∷ 0x80 ∷ 0x3F ∷ 0 ∷ 0 ∷ 0x80 ∷ 0x3F ∷ 0 ∷ 0 ∷ 0x80 ∷ 0x3F
    ∷ 0 ∷ 0 ∷ 0 ∷ 0 ∷ 0 ∷ 0 ∷ 0 ∷ 0 ∷ 0 ∷ 0 ∷ 0 ∷ 0
    ∷ 0 ∷ 0 ∷ 0 ∷ 0 ∷ 0 ∷ 0 ∷ 0 ∷ 0 ∷ 0 ∷ 0 ∷ 0 ∷ 0 ∷ []
unfolding computes tape_data frame_at record_of unknown push_kind size_of call_of push_of source_of field from_little_endian
three_channels_lem = refl
