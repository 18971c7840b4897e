-- Document 02, Paper 6: "Given a record's kind, its call's arguments (01 to 03 take no gain) and a lent buffer, the writer puts down the record and returns the next free place, leaving every other byte." The kinds and their numbers are those of the reader (tape/specs/Tape). Assumes nothing.
use Rattle.std.specs.Prelude.{ℕ, ◌+◌, ◌-◌, Bool, true, false, cond, List, [], ◌∷◌, ◌++◌, ltb, eqb, length, take, drop, Ok, Err, Result}
use Rattle.floats.specs.Arithmetic.{oneᶠ}
use Rattle.little_endian.specs.Fields.{Part, byte, word, long, double, single, joined}
use Rattle.event.specs.declared.Source.{Source}
use Rattle.event.specs.declared.Source.TheVariants.{Held, Ramp, Clip}
use Rattle.event.specs.Numbers.{first_word, second_word}
use Rattle.tape.specs.Tape.{gain_kind, plain_kind, push_kind, size_of, unknown_mode, unknown_curve, unknown_source, mode_of, curve_of}
use Rattle.tape.specs.declared.reader.PushRecord.{PushRecord}
use Rattle.tape.specs.declared.reader.EditRecord.{EditRecord}
use Rattle.tape.specs.declared.reader.Call.{Call}
use Rattle.tape.specs.declared.reader.Call.TheVariants.{Create, Push, PushRelative, PushDuration, Edit, EditRelative, Tick, Process, Reset, SetSampleRate}
use Rattle.tape_writer.specs.declared.Arguments.{Arguments}
use Rattle.tape_writer.specs.declared.Refusal.{Refusal}
use Rattle.tape_writer.specs.declared.Refusal.TheVariants.{Undefined, NoRoom}

-- ---- the call that the arguments are; its kind k stands apart

unfoldable pub source_from : Arguments → Source
source_from a =
    cond (eqb a.source 0) (Held a.value)
    (cond (eqb a.source 1) (Ramp a.value a.step)
    (Clip a.offset a.length))

-- "(01 to 03 take no gain)"; they "mean gain 1.0"
unfoldable pub push_from : (k : ℕ) → Arguments → PushRecord
push_from k a = record {
  start_time = a.start_time;
  end_time = a.end_time;
  fade_in = a.fade_in;
  fade_out = a.fade_out;
  fade_ease = curve_of a.curve;
  source = source_from a;
  gain = cond (gain_kind k) a.gain oneᶠ;
}

unfoldable pub edit_from : Arguments → EditRecord
edit_from a = record { id = record { 0 = a.number }; end_time = a.end_time; fade_out = a.fade_out }

unfoldable pub call_by : (k : ℕ) → Arguments → Call
call_by k a =
    cond (eqb (plain_kind k) 0) (Create a.channels (mode_of a.mode) a.number)
    (cond (eqb (plain_kind k) 1) (Push (push_from k a))
    (cond (eqb (plain_kind k) 2) (PushRelative (push_from k a))
    (cond (eqb (plain_kind k) 3) (PushDuration (push_from k a))
    (cond (eqb (plain_kind k) 4) (Edit (edit_from a))
    (cond (eqb (plain_kind k) 5) (EditRelative (edit_from a))
    (cond (eqb (plain_kind k) 6) Tick
    (cond (eqb (plain_kind k) 7) (Process a.size)
    (cond (eqb (plain_kind k) 8) Reset (SetSampleRate a.sample_rate)))))))))

abbrev pub call_from : Arguments → Call
call_from a = call_by a.kind a

-- ---- the record's bytes, in document 01's order

-- "00: channels, mode (0 All, 1 None), first number u64"
abbrev pub creation_parts : Arguments → List Part
creation_parts a = byte a.channels ∷ byte a.mode ∷ long a.number ∷ []

-- "the new tape kinds 0A, 0B and 0C are the same pushes with four gain bytes at the end of the body"
abbrev pub gain_parts : (k : ℕ) → Arguments → List Part
gain_parts k a = cond (gain_kind k) (single a.gain ∷ []) []

-- "start, end or duration, fade-in, fade-out, curve byte (0 power, 1 smooth), source byte (0 held, 1 ramp, 2 clip), two 4-byte words (held: level, unused; ramp: value, step; clip: offset, length)"; the unused word is 0
abbrev pub push_parts : (k : ℕ) → Arguments → List Part
push_parts k a =
    double a.start_time ∷ double a.end_time ∷ double a.fade_in ∷ double a.fade_out ∷ byte a.curve ∷ byte a.source
    ∷ word (first_word (source_from a)) ∷ word (second_word (source_from a)) ∷ gain_parts k a

-- "04 edit, 05 relative: number, end, fade-out"
abbrev pub edit_parts : Arguments → List Part
edit_parts a = long a.number ∷ double a.end_time ∷ double a.fade_out ∷ []

-- "06 tick, 08 reset: empty. 07 block: size byte. 09 rate: f64"
unfoldable pub body_parts : (k : ℕ) → Arguments → List Part
body_parts k a =
    cond (eqb (plain_kind k) 0) (creation_parts a)
    (cond (ltb (plain_kind k) 4) (push_parts k a)
    (cond (ltb (plain_kind k) 6) (edit_parts a)
    (cond (eqb (plain_kind k) 7) (byte a.size ∷ [])
    (cond (eqb (plain_kind k) 9) (double a.sample_rate ∷ []) []))))

-- "A record is one byte of kind, then a body"
unfoldable pub bytes_by : (k : ℕ) → Arguments → List ℕ
bytes_by k a = joined (byte k ∷ body_parts k a)

abbrev pub bytes_of : Arguments → List ℕ
bytes_of a = bytes_by a.kind a

-- ---- the answer, and the buffer as it is left

-- "an undefined kind, mode, curve or source, or channels or a block size above 255, is 14": where the kind has one
unfoldable pub undefined_by : (k : ℕ) → Arguments → Bool
undefined_by k a =
    cond (ltb 12 k) true
    (cond (eqb k 0) (cond (ltb 255 a.channels) true (unknown_mode a.mode))
    (cond (eqb k 7) (ltb 255 a.size)
    (cond (push_kind k) (cond (unknown_curve a.curve) true (unknown_source a.source)) false)))

abbrev pub undefined : Arguments → Bool
undefined a = undefined_by a.kind a

-- "If the free place lies past the buffer's end, or the remainder is shorter than the record, the answer is 19"
unfoldable pub too_short : (buf : List ℕ) (at size : ℕ) → Bool
too_short buf at size = cond (ltb (length buf) at) true (ltb (length buf - at) size)

-- document 01's number of a refusal
abbrev pub refusal_number : Refusal → ℕ
refusal_number Undefined = 14
refusal_number NoRoom = 19

-- "is 14, before 19"
unfoldable pub answered : Arguments → (buf : List ℕ) (at : ℕ) → Result ℕ Refusal
answered a buf at = cond (undefined a) (Err Undefined) (cond (too_short buf at (size_of a.kind)) (Err NoRoom) (Ok (at + size_of a.kind)))

-- "puts down the record .., leaving every other byte"
abbrev pub laid : (buf : List ℕ) (at : ℕ) (bytes : List ℕ) → List ℕ
laid buf at bytes = take at buf ++ bytes ++ drop (at + length bytes) buf

-- "no byte changes"
abbrev pub leaving : Result ℕ Refusal → (before after : List ℕ) → List ℕ
leaving (Ok n) before after = after
leaving (Err e) before after = before

unfoldable pub buffer_after : Arguments → (buf : List ℕ) (at : ℕ) → List ℕ
buffer_after a buf at = leaving (answered a buf at) buf (laid buf at (bytes_of a))
