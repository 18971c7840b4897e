-- Document 02, Paper 6, the two theorems, said with the reader's own definition `read_at` (tape/specs/Tape) for every buffer and place: they are proved in ReadBack and WrittenAgain. Assumes nothing.
use Rattle.std.specs.Prelude.{◌≡◌, false, not, List, ℕ, ◌-◌, ◌^◌, ◌<◌, T, eqb, take, drop, Float, Ok}
use Rattle.std.specs.Float.{binary32, binary64}
use Rattle.std.specs.Float.Ieee.{is_nan, fits}
use Rattle.floats.specs.Arithmetic.{zeroᶠ}
use Rattle.event.specs.declared.Source.{Source}
use Rattle.event.specs.declared.Source.TheVariants.{Held, Ramp, Clip}
use Rattle.event.specs.Numbers.{mode_number, curve_number, source_number}
use Rattle.tape.specs.Fields.{field, Bytes}
use Rattle.tape.specs.Tape.{read_at}
use Rattle.tape.specs.declared.reader.Cursor.{Cursor}
use Rattle.tape.specs.declared.reader.PushRecord.{PushRecord}
use Rattle.tape.specs.declared.reader.EditRecord.{EditRecord}
use Rattle.tape.specs.declared.reader.Read.TheVariants.{Record}
use Rattle.tape.specs.declared.reader.Call.{Call}
use Rattle.tape.specs.declared.reader.Call.TheVariants.{Create, Push, PushRelative, PushDuration, Edit, EditRelative, Tick, Process, Reset, SetSampleRate}
use Rattle.tape_writer.specs.declared.Arguments.{Arguments}
use Rattle.tape_writer.specs.Writing.{call_from, bytes_of, answered, buffer_after}

-- ---- "Each record written reads back, where its kind may stand, as the same call": 00 as the first record, any other as a later one

-- every argument is a value of its type
pub record Typed (a : Arguments) : Type 0 where
  pub number : a.number < 2 ^ 64
  pub start : T (fits binary64 a.start_time)
  pub end : T (fits binary64 a.end_time)
  pub fade_in : T (fits binary64 a.fade_in)
  pub fade_out : T (fits binary64 a.fade_out)
  pub value : T (fits binary32 a.value)
  pub step : T (fits binary32 a.step)
  pub offset : a.offset < 2 ^ 32
  pub length : a.length < 2 ^ 32
  pub gain : T (fits binary32 a.gain)
  pub rate : T (fits binary64 a.sample_rate)

-- a record that was written with the answer n
abbrev pub ReadsBack : Type 0
ReadsBack = (a : Arguments) → Typed a → (buf : List ℕ) (at n : ℕ) → answered a buf at ≡ Ok n
    → read_at (buffer_after a buf at) (record { at = at; first = eqb a.kind 0 }) ≡ Record a.kind (call_from a) (record { at = n; first = false })

-- ---- "and a record that reads and is written again gives its own bytes, if a held source's unused word is 0 and no float is a NaN"

-- the arguments of a call; those that it does not take are 0
abbrev pub value_of : Source → Float
value_of (Held level) = level
value_of (Ramp value step) = value
value_of (Clip offset length) = zeroᶠ

abbrev pub step_of : Source → Float
step_of (Held level) = zeroᶠ
step_of (Ramp value step) = step
step_of (Clip offset length) = zeroᶠ

abbrev pub offset_of : Source → ℕ
offset_of (Held level) = 0
offset_of (Ramp value step) = 0
offset_of (Clip offset length) = offset

abbrev pub length_of : Source → ℕ
length_of (Held level) = 0
length_of (Ramp value step) = 0
length_of (Clip offset length) = length

abbrev pub push_arguments : (kind : ℕ) → PushRecord → Arguments
push_arguments kind p = record {
  kind = kind;
  channels = 0;
  mode = 0;
  number = 0;
  start_time = p.start_time;
  end_time = p.end_time;
  fade_in = p.fade_in;
  fade_out = p.fade_out;
  curve = curve_number p.fade_ease;
  source = source_number p.source;
  value = value_of p.source;
  step = step_of p.source;
  offset = offset_of p.source;
  length = length_of p.source;
  gain = p.gain;
  size = 0;
  sample_rate = zeroᶠ;
}

abbrev pub edit_arguments : (kind : ℕ) → EditRecord → Arguments
edit_arguments kind e = record {
  kind = kind;
  channels = 0;
  mode = 0;
  number = e.id.0;
  start_time = zeroᶠ;
  end_time = e.end_time;
  fade_in = zeroᶠ;
  fade_out = e.fade_out;
  curve = 0;
  source = 0;
  value = zeroᶠ;
  step = zeroᶠ;
  offset = 0;
  length = 0;
  gain = zeroᶠ;
  size = 0;
  sample_rate = zeroᶠ;
}

abbrev pub other_arguments : (kind channels mode number size : ℕ) → (rate : Float) → Arguments
other_arguments kind channels mode number size rate = record {
  kind = kind;
  channels = channels;
  mode = mode;
  number = number;
  start_time = zeroᶠ;
  end_time = zeroᶠ;
  fade_in = zeroᶠ;
  fade_out = zeroᶠ;
  curve = 0;
  source = 0;
  value = zeroᶠ;
  step = zeroᶠ;
  offset = 0;
  length = 0;
  gain = zeroᶠ;
  size = size;
  sample_rate = rate;
}

abbrev pub arguments_of : (kind : ℕ) → Call → Arguments
arguments_of kind (Create channels mode first) = other_arguments kind channels (mode_number mode) first 0 zeroᶠ
arguments_of kind (Push p) = push_arguments kind p
arguments_of kind (PushRelative p) = push_arguments kind p
arguments_of kind (PushDuration p) = push_arguments kind p
arguments_of kind (Edit e) = edit_arguments kind e
arguments_of kind (EditRelative e) = edit_arguments kind e
arguments_of kind Tick = other_arguments kind 0 0 0 0 zeroᶠ
arguments_of kind (Process size) = other_arguments kind 0 0 0 size zeroᶠ
arguments_of kind Reset = other_arguments kind 0 0 0 0 zeroᶠ
arguments_of kind (SetSampleRate rate) = other_arguments kind 0 0 0 0 rate

-- "no float is a NaN"
abbrev pub Number : Float → Type 0
Number x = T (not (is_nan x))

abbrev pub SourceNumbers : Source → Type 0
SourceNumbers (Held level) = Number level
SourceNumbers (Ramp value step) = Number value × Number step
SourceNumbers (Clip offset length) = Unit {0}

abbrev pub PushNumbers : PushRecord → Type 0
PushNumbers p = Number p.start_time × Number p.end_time × Number p.fade_in × Number p.fade_out × SourceNumbers p.source × Number p.gain

abbrev pub EditNumbers : EditRecord → Type 0
EditNumbers e = Number e.end_time × Number e.fade_out

abbrev pub Numbers : Call → Type 0
Numbers (Create channels mode first) = Unit {0}
Numbers (Push p) = PushNumbers p
Numbers (PushRelative p) = PushNumbers p
Numbers (PushDuration p) = PushNumbers p
Numbers (Edit e) = EditNumbers e
Numbers (EditRelative e) = EditNumbers e
Numbers Tick = Unit {0}
Numbers (Process size) = Unit {0}
Numbers Reset = Unit {0}
Numbers (SetSampleRate rate) = Number rate

-- "a held source's unused word"; 0 where there is none
abbrev pub unused_word : List ℕ → Source → ℕ
unused_word bs (Held level) = field bs 39 4
unused_word bs (Ramp value step) = 0
unused_word bs (Clip offset length) = 0

abbrev pub unused : List ℕ → Call → ℕ
unused bs (Create channels mode first) = 0
unused bs (Push p) = unused_word bs p.source
unused bs (PushRelative p) = unused_word bs p.source
unused bs (PushDuration p) = unused_word bs p.source
unused bs (Edit e) = 0
unused bs (EditRelative e) = 0
unused bs Tick = 0
unused bs (Process size) = 0
unused bs Reset = 0
unused bs (SetSampleRate rate) = 0

-- the record of kind `kind` at a place, whose call was read: its arguments are that call, give the record's own bytes, and leave the tape, written there again, as it was
pub record WrittenAgain (tape : List ℕ) (at kind : ℕ) (call : Call) (next : ℕ) : Type 0 where
  pub same-call : call_from (arguments_of kind call) ≡ call
  pub own_bytes : bytes_of (arguments_of kind call) ≡ take (next - at) (drop at tape)
  pub next_place : answered (arguments_of kind call) tape at ≡ Ok next
  pub same_tape : buffer_after (arguments_of kind call) tape at ≡ tape

abbrev pub WritesAgain : Type 0
WritesAgain = (tape : List ℕ) → Bytes tape → (c : Cursor) (kind : ℕ) (call : Call) (next : Cursor) → read_at tape c ≡ Record kind call next
    → Numbers call → unused (drop c.at tape) call ≡ 0 → WrittenAgain tape c.at kind call next.at
