-- Document 01's tape, with Paper 5's kinds: what a record says, and when it is refused as 14 or 15. A byte that is not there counts as 0, which every place allows, so 14 looks only at bytes that are there. Assumes nothing.
use Rattle.std.specs.Prelude.{ℕ, ◌+◌, ◌-◌, Bool, true, false, cond, List, [], ◌∷◌, length, drop, ◌==◌, from_bits, nat_lt, slice_index, Float}
use Rattle.std.specs.Float.{binary32, binary64}
use Rattle.floats.specs.Arithmetic.{oneᶠ}
use Rattle.tape.specs.Fields.{field}
use Rattle.event.specs.declared.Fade.{Fade}
use Rattle.event.specs.declared.Fade.TheVariants.{Power, Smooth}
use Rattle.event.specs.declared.ReplayMode.{ReplayMode}
use Rattle.event.specs.declared.ReplayMode.TheVariants.{All, None}
use Rattle.event.specs.declared.Source.{Source}
use Rattle.event.specs.declared.Source.TheVariants.{Held, Ramp, Clip}
use Rattle.event.specs.Numbers.{mode_number, curve_number, source_number}
use Rattle.tape.specs.declared.reader.Cursor.{Cursor}
use Rattle.tape.specs.declared.reader.PushRecord.{PushRecord}
use Rattle.tape.specs.declared.reader.EditRecord.{EditRecord}
use Rattle.tape.specs.declared.reader.Call.{Call}
use Rattle.tape.specs.declared.reader.Call.TheVariants.{Create, Push, PushRelative, PushDuration, Edit, EditRelative, Tick, Process, Reset, SetSampleRate}
use Rattle.tape.specs.declared.reader.Read.{Read}
use Rattle.tape.specs.declared.reader.Read.TheVariants.{Record, Refused, End}

-- a record's bytes: its kind, then its body
abbrev pub kind_of : List ℕ → ℕ
kind_of bs = slice_index bs 0

-- the length of a record with its kind byte; kinds 00 to 0C
unfoldable pub sizes : List ℕ
sizes = 11 ∷ 43 ∷ 43 ∷ 43 ∷ 25 ∷ 25 ∷ 1 ∷ 2 ∷ 1 ∷ 9 ∷ 47 ∷ 47 ∷ 47 ∷ []

unfoldable pub size_of : ℕ → ℕ
unfolding sizes
size_of kind = slice_index sizes kind

-- "the new tape kinds 0A, 0B and 0C are the same pushes with four gain bytes at the end of the body": whether a kind has gain bytes, and the same kind without them
abbrev pub gain_kind : ℕ → Bool
gain_kind kind = cond (nat_lt 9 kind) (nat_lt kind 13) false

abbrev pub plain_kind : ℕ → ℕ
plain_kind kind = cond (gain_kind kind) (kind - 9) kind

-- the pushes: 01, 02, 03, and 0A, 0B, 0C
unfoldable pub push_kind : ℕ → Bool
push_kind kind = cond (nat_lt 0 (plain_kind kind)) (nat_lt (plain_kind kind) 4) false

-- the places of the mode byte of 00, and of a push's curve and source bytes
abbrev pub mode_byte : List ℕ → ℕ
mode_byte bs = slice_index bs 2

abbrev pub curve_byte : List ℕ → ℕ
curve_byte bs = slice_index bs 33

abbrev pub source_byte : List ℕ → ℕ
source_byte bs = slice_index bs 34

-- a byte above the last case's number is unknown
abbrev pub unknown_mode : ℕ → Bool
unknown_mode b = nat_lt (mode_number None) b

abbrev pub unknown_curve : ℕ → Bool
unknown_curve b = nat_lt (curve_number Smooth) b

abbrev pub unknown_source : ℕ → Bool
unknown_source b = nat_lt (source_number (Clip 0 0)) b

unfoldable pub unknown_push : List ℕ → Bool
unknown_push bs = cond (unknown_curve (curve_byte bs)) true (unknown_source (source_byte bs))

-- 14: the kind is unknown, the first record is not 00 or a later one is, or a mode, curve or source byte is unknown
unfoldable pub unknown : (first : Bool) → List ℕ → Bool
unfolding unknown_push
unknown true bs = cond (kind_of bs == 0) (unknown_mode (mode_byte bs)) true
unknown false bs =
    cond (kind_of bs == 0) true
    (cond (nat_lt 12 (kind_of bs)) true
    (cond (push_kind (kind_of bs)) (unknown_push bs) false))

-- ---- a body's fields
abbrev pub f64_at : List ℕ → ℕ → Float
f64_at bs at = from_bits binary64 (field bs at 8)

abbrev pub f32_at : List ℕ → ℕ → Float
f32_at bs at = from_bits binary32 (field bs at 4)

-- the case whose number the byte is (event/specs/Numbers)
abbrev pub mode_of : ℕ → ReplayMode
mode_of b = cond (b == mode_number All) All None

abbrev pub curve_of : ℕ → Fade
curve_of b = cond (b == curve_number Power) Power Smooth

-- "two 4-byte words (held: level, unused; ramp: value, step; clip: offset, length)"
unfoldable pub source_of : List ℕ → Source
source_of bs =
    let held = Held (f32_at bs 35) in
    let ramp = Ramp (f32_at bs 35) (f32_at bs 39) in
    let clip = Clip (field bs 35 4) (field bs 39 4) in
    cond (source_byte bs == source_number held) held (cond (source_byte bs == source_number ramp) ramp clip)

-- "Records 01 to 03 mean gain 1.0"
abbrev pub gain_of : List ℕ → Float
gain_of bs = cond (gain_kind (kind_of bs)) (f32_at bs 43) oneᶠ

-- start, end or duration, fade-in, fade-out, curve, source, gain
unfoldable pub push_of : List ℕ → PushRecord
push_of bs = record {
  start_time = f64_at bs 1;
  end_time = f64_at bs 9;
  fade_in = f64_at bs 17;
  fade_out = f64_at bs 25;
  fade_ease = curve_of (curve_byte bs);
  source = source_of bs;
  gain = gain_of bs;
}

-- number, end, fade-out
unfoldable pub edit_of : List ℕ → EditRecord
edit_of bs = record { id = record { 0 = field bs 1 8 }; end_time = f64_at bs 9; fade_out = f64_at bs 17 }

-- the call of a record that is there whole, by its kind without gain bytes
abbrev pub call_at : ℕ → List ℕ → Call
call_at kind bs =
    cond (kind == 0) (Create (slice_index bs 1) (mode_of (mode_byte bs)) (field bs 3 8))
    (cond (kind == 1) (Push (push_of bs))
    (cond (kind == 2) (PushRelative (push_of bs))
    (cond (kind == 3) (PushDuration (push_of bs))
    (cond (kind == 4) (Edit (edit_of bs))
    (cond (kind == 5) (EditRelative (edit_of bs))
    (cond (kind == 6) Tick
    (cond (kind == 7) (Process (slice_index bs 1))
    (cond (kind == 8) Reset (SetSampleRate (f64_at bs 1))))))))))

unfoldable pub call_of : List ℕ → Call
call_of bs = call_at (plain_kind (kind_of bs)) bs

-- the record that begins the list: 14, then 15, then its call
unfoldable pub record_of : Cursor → List ℕ → Read
record_of c bs =
    cond (unknown c.first bs) (Refused (kind_of bs) 14)
    (cond (nat_lt (length bs) (size_of (kind_of bs))) (Refused (kind_of bs) 15)
    (Record (kind_of bs) (call_of bs) (record { at = c.at + size_of (kind_of bs); first = false })))

-- the record at the cursor
unfoldable pub read_at : List ℕ → Cursor → Read
read_at tape c = cond (nat_lt c.at (length tape)) (record_of c (drop c.at tape)) End
