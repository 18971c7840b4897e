-- What a tape comes to, by its records on the plain ledger. No engine stands here. Assumes nothing.
use Rattle.std.specs.Prelude.{ℕ, zero, suc, ◌+◌, ◌-◌, ◌^◌, min, Bool, true, cond, ◌&&◌, List, length, ◌==◌, Float}
use Rattle.std.specs.Float.Ieee.{eq}
use Rattle.event.specs.declared.ReplayMode.TheVariants.{All}
use Rattle.floats.specs.Arithmetic.{◌≈ᶠ◌, whole}
use Rattle.ledger.specs.Ledger.{Ledger, fresh}
use Rattle.tape.specs.declared.reader.Call.{Call}
use Rattle.tape.specs.declared.reader.Call.TheVariants.{Create, Push, PushRelative, PushDuration, Edit, EditRelative, Tick, Process, Reset, SetSampleRate}
use Rattle.tape.specs.declared.reader.Cursor.{Cursor}
use Rattle.tape.specs.declared.reader.Read.{Read}
use Rattle.tape.specs.declared.reader.Read.TheVariants.{Record, Refused, End}
use Rattle.tape.specs.Tape.{read_at}
use Rattle.record_output.specs.Bytes.{bytes_of}
use Rattle.tape_extent.specs.declared.Extent.{Extent}
use Rattle.tape_extent.specs.Playing.{Played, play}

-- the frames of a tick or block that is accepted
abbrev pub frames_in : Call → ℕ
frames_in (Create channels mode first) = 0
frames_in (Push p) = 0
frames_in (PushRelative p) = 0
frames_in (PushDuration p) = 0
frames_in (Edit p) = 0
frames_in (EditRelative p) = 0
frames_in Tick = 1
frames_in (Process n) = n
frames_in Reset = 0
frames_in (SetSampleRate r) = 0

abbrev pub frames_of : Call → Played → ℕ
frames_of call p = cond (p.refusal == 0) (frames_in call) 0

-- an extent by its fields
abbrev pub told : (bytes frames channels : ℕ) → (rate : Float) → (one-rate : Bool) → (ended : ℕ) → Extent
told bytes frames channels rate one-rate ended = record { bytes = bytes; frames = frames; channels = channels; rate = rate; one_rate = one-rate; ended = ended }

-- Before the first record: a WAV without frames has the rate of a fresh ledger.
unfoldable pub nothing : Extent
nothing = told 0 0 1 (whole 44_100) true 0

-- of n more frames at that rate: where there are none, the rate stays
abbrev pub rate_with : Extent → (n : ℕ) → (rate : Float) → Float
rate_with x n r = cond (n == 0) x.rate r

-- the first frames are at one rate
unfoldable pub one_rate_with : Extent → (n : ℕ) → (rate : Float) → Bool
unfolding eq
one_rate_with x n r = cond (n == 0) x.one_rate (cond (x.frames == 0) true (x.one_rate && x.rate ≈ᶠ r))

-- so many more bytes, and n more frames at that rate
unfoldable pub longer : Extent → (bytes n : ℕ) → (rate : Float) → Extent
unfolding one_rate_with
longer x bytes n r = told (x.bytes + bytes) (x.frames + n) x.channels (rate_with x n r) (one_rate_with x n r) x.ended

-- with a record's samples, at the rate that the ledger has
abbrev pub counted : Extent → Call → Played → Extent
counted x call p = longer x (length (bytes_of p.samples)) (frames_of call p) p.ledger.rate

-- ended by refusal n, or by the tape's end, 0
abbrev pub ended_by : Extent → (channels n : ℕ) → Extent
ended_by x k n = told x.bytes x.frames k x.rate x.one_rate n

-- the rest of a tape: from a ledger and a cursor on, with what the records before came to
abbrev pub Rest : Type 0
Rest = Ledger → Cursor → Extent → Extent

-- refusal 1 ends it
unfoldable pub after_record : Rest → Call → Played → (next : Cursor) → Extent → Extent
unfolding longer bytes_of
after_record rest call p next x = cond (p.refusal == 1) (ended_by x p.ledger.channels 1) (rest p.ledger next (counted x call p))

-- 14, 15 and the tape's end, 0, end it
abbrev pub end_of : Read → ℕ
end_of (Record kind call next) = 0
end_of (Refused kind number) = number
end_of End = 0

unfoldable pub after_read : (pool : List Float) → Rest → Read → Ledger → Extent → Extent
unfolding after_record play
after_read pool rest (Record kind call next) l x = after_record rest call (play pool l call) next x
after_read pool rest (Refused kind number) l x = ended_by x l.channels (end_of (Refused kind number))
after_read pool rest End l x = ended_by x l.channels (end_of End)

-- at most f records
unfoldable pub extent_from : (pool : List Float) → (tape : List ℕ) → (f : ℕ) → Rest
unfolding after_read read_at
extent_from pool tape zero l c x = ended_by x l.channels 0
extent_from pool tape (suc f) l c x = after_read pool (extent_from pool tape f) (read_at tape c) l x

-- A tape has no more records than bytes. Its first record, 00, replaces the ledger that stands here before it.
unfoldable pub whole_extent : (pool : List Float) → (tape : List ℕ) → Extent
unfolding extent_from fresh nothing
whole_extent pool tape = extent_from pool tape (length tape) (fresh 1 All 1) (record { at = 0; first = true }) nothing

-- a count of 64 bits: 2 ^ 64 - 1 where there are more
abbrev pub capped : ℕ → ℕ
capped n = min n (2 ^ 64 - 1)

unfoldable pub counts64 : Extent → Extent
counts64 x = told (capped x.bytes) (capped x.frames) x.channels x.rate x.one_rate x.ended

abbrev pub extent_of : (pool : List Float) → (tape : List ℕ) → Extent
extent_of pool tape = counts64 (whole_extent pool tape)
