-- Document 02, Paper 6, by computation: the records of document 01's example tape byte by byte, records of the other kinds, the calls that arguments are and back, and both refusals. Arguments that a kind does not take are 999 or the NaN here. Assumes nothing.
use Rattle.std.specs.Prelude.{ℕ, ◌-◌, ◌^◌, ◌≡◌, refl, true, false, List, [], ◌∷◌, ◌++◌, pos, negsuc, take, replicate, Float, Ok, Err, Result}
use Rattle.std.specs.Float.{nan, inf, fin}
use Rattle.std.specs.Float.Ieee.{to_bits}
use Rattle.event.specs.declared.Fade.{Fade}
use Rattle.event.specs.declared.Fade.TheVariants.{Power, Smooth}
use Rattle.event.specs.declared.ReplayMode.TheVariants.{All, None}
use Rattle.event.specs.declared.Source.{Source}
use Rattle.event.specs.declared.Source.TheVariants.{Held, Ramp, Clip}
use Rattle.tape.specs.declared.reader.PushRecord.{PushRecord}
use Rattle.tape.specs.declared.reader.EditRecord.{EditRecord}
use Rattle.tape.specs.declared.reader.Call.{Call}
use Rattle.tape.specs.declared.reader.Call.TheVariants.{Create, Push, PushRelative, PushDuration, Edit, EditRelative, Tick, Process, Reset, SetSampleRate}
use Rattle.tape.specs.Fields.{field, from_little_endian}
use Rattle.tape.specs.Tape.{push_kind, size_of, sizes}
use Rattle.tape.specs.Example.{example}
use Rattle.tape_writer.specs.declared.Arguments.{Arguments}
use Rattle.tape_writer.specs.declared.Refusal.{Refusal}
use Rattle.tape_writer.specs.declared.Refusal.TheVariants.{Undefined, NoRoom}
use Rattle.tape_writer.specs.Claim.{arguments_of, unused}
use Rattle.little_endian.specs.LowBytes.{little_endian}
use Rattle.little_endian.specs.Fields.{joined}
use Rattle.tape_writer.specs.Writing.{call_by, push_from, edit_from, call_from, source_from, body_parts, bytes_by, bytes_of, undefined_by, too_short, answered, buffer_after}

-- ---- arguments

abbrev arguments : (kind channels mode number : ℕ) → (start end fade_in fade_out : Float) → (curve source : ℕ) → (value step : Float) → (offset length : ℕ) → (gain : Float) → (size : ℕ) → (rate : Float) → Arguments
arguments k c m n s e i o q u v t f l g z r = record {
  kind = k;
  channels = c;
  mode = m;
  number = n;
  start_time = s;
  end_time = e;
  fade_in = i;
  fade_out = o;
  curve = q;
  source = u;
  value = v;
  step = t;
  offset = f;
  length = l;
  gain = g;
  size = z;
  sample_rate = r;
}

abbrev creation : (channels mode number : ℕ) → Arguments
creation c m n = arguments 0 c m n nan nan nan nan 999 999 nan nan 999 999 nan 999 nan

-- a push of 1.5, 2.0, 0.5, 0.25
abbrev push : (kind curve source : ℕ) → (value step : Float) → (offset length : ℕ) → (gain : Float) → Arguments
push k q u v t f l g = arguments k 999 999 999 (fin false 3 (negsuc 0)) (fin false 1 (pos 1)) (fin false 1 (negsuc 0)) (fin false 1 (negsuc 1)) q u v t f l g 999 nan

abbrev edit : (kind number : ℕ) → (end fade_out : Float) → Arguments
edit k n e o = arguments k 999 999 n nan e nan o 999 999 nan nan 999 999 nan 999 nan

abbrev bare : (kind : ℕ) → Arguments
bare k = arguments k 999 999 999 nan nan nan nan 999 999 nan nan 999 999 nan 999 nan

abbrev block : (size : ℕ) → Arguments
block z = arguments 7 999 999 999 nan nan nan nan 999 999 nan nan 999 999 nan z nan

abbrev rate : Float → Arguments
rate r = arguments 9 999 999 999 nan nan nan nan 999 999 nan nan 999 999 nan 999 r

abbrev one : Float
one = fin false 1 (pos 0)

-- what is put down, and what a buffer reads after one writing
unfoldable pub put : Arguments → List ℕ
unfolding bytes_by body_parts joined little_endian source_from to_bits
put a = bytes_of a

unfoldable pub after : Arguments → (buf : List ℕ) (at : ℕ) → List ℕ
unfolding buffer_after answered undefined_by push_kind too_short size_of sizes bytes_by body_parts joined little_endian source_from to_bits
after a buf at = buffer_after a buf at

unfoldable pub answer : Arguments → (buf : List ℕ) (at : ℕ) → Result ℕ Refusal
unfolding answered undefined_by push_kind too_short size_of sizes
answer a buf at = answered a buf at

-- ---- document 01's example tape: `00 01 00 0100000000000000`, `09` 8.0, `01` 0.0 0.125 0.0 0.0 curve 1 source 0 level 1.0 word 0, `07 02`, `06`
abbrev zero64 : Float
zero64 = fin false 0 (pos 0)

abbrev example-push : Arguments
example-push = arguments 1 999 999 999 zero64 (fin false 1 (negsuc 2)) zero64 zero64 1 0 one nan 999 999 nan 999 nan

pub example_records :
    (put (creation 1 0 1) ≡ 0x00 ∷ 0x01 ∷ 0x00 ∷ 0x01 ∷ 0 ∷ 0 ∷ 0 ∷ 0 ∷ 0 ∷ 0 ∷ 0 ∷ [])
    × (put (rate (fin false 1 (pos 3))) ≡ 0x09 ∷ 0 ∷ 0 ∷ 0 ∷ 0 ∷ 0 ∷ 0 ∷ 0x20 ∷ 0x40 ∷ [])
    × (put example-push ≡ 0x01 ∷ replicate 8 0 ++ (replicate 6 0 ++ (0xc0 ∷ 0x3f ∷ replicate 16 0 ++ (1 ∷ 0 ∷ 0 ∷ 0 ∷ 0x80 ∷ 0x3f ∷ 0 ∷ 0 ∷ 0 ∷ 0 ∷ []))))
    × (put (block 2) ≡ 0x07 ∷ 0x02 ∷ [])
    × (put (bare 6) ≡ 0x06 ∷ [])
unfolding put
example_records = (refl, refl, refl, refl, refl)

-- the same one behind the other, in a buffer of FF
pub example_tape : after (bare 6) (after (block 2) (after example-push (after (rate (fin false 1 (pos 3))) (after (creation 1 0 1) (replicate 68 0xff) 0) 11) 20) 63) 65 ≡ example ++ (0xff ∷ 0xff ∷ [])
unfolding after
example_tape = refl

-- ---- the other kinds: 1.5 is 3FF8000000000000, 2.0 4000000000000000, 0.5 3FE0000000000000, 0.25 3FD0000000000000
abbrev times : List ℕ
times = replicate 6 0 ++ (0xf8 ∷ 0x3f ∷ replicate 7 0 ++ (0x40 ∷ replicate 6 0 ++ (0xe0 ∷ 0x3f ∷ replicate 6 0 ++ (0xd0 ∷ 0x3f ∷ []))))

-- a ramp from 3.0 (40400000) by 4.0 (40800000); a clip from 04030201, 08070605 long; a held 3.0, whose unused word is 0
pub push_records_lem :
    (put (push 2 0 1 (fin false 3 (pos 0)) (fin false 1 (pos 2)) 999 999 nan) ≡ 0x02 ∷ times ++ (0 ∷ 1 ∷ 0 ∷ 0 ∷ 0x40 ∷ 0x40 ∷ 0 ∷ 0 ∷ 0x80 ∷ 0x40 ∷ []))
    × (put (push 3 1 2 nan nan 0x0403_0201 0x0807_0605 nan) ≡ 0x03 ∷ times ++ (1 ∷ 2 ∷ 1 ∷ 2 ∷ 3 ∷ 4 ∷ 5 ∷ 6 ∷ 7 ∷ 8 ∷ []))
    × (put (push 1 0 0 (fin false 3 (pos 0)) (fin false 1 (pos 2)) 999 999 nan) ≡ 0x01 ∷ times ++ (0 ∷ 0 ∷ 0 ∷ 0 ∷ 0x40 ∷ 0x40 ∷ 0 ∷ 0 ∷ 0 ∷ 0 ∷ []))
unfolding put
push_records_lem = (refl, refl, refl)

-- "four gain bytes at the end of the body": 0.75 is 3F400000, the NaN 7FC00000, -infinity FF800000
pub gain_records :
    (put (push 10 0 1 (fin false 3 (pos 0)) (fin false 1 (pos 2)) 999 999 (fin false 3 (negsuc 1))) ≡ 0x0a ∷ times ++ (0 ∷ 1 ∷ 0 ∷ 0 ∷ 0x40 ∷ 0x40 ∷ 0 ∷ 0 ∷ 0x80 ∷ 0x40 ∷ 0 ∷ 0 ∷ 0x40 ∷ 0x3f ∷ []))
    × (put (push 11 1 2 nan nan 0x0403_0201 0x0807_0605 nan) ≡ 0x0b ∷ times ++ (1 ∷ 2 ∷ 1 ∷ 2 ∷ 3 ∷ 4 ∷ 5 ∷ 6 ∷ 7 ∷ 8 ∷ 0 ∷ 0 ∷ 0xc0 ∷ 0x7f ∷ []))
    × (put (push 12 0 0 nan nan 999 999 (inf true)) ≡ 0x0c ∷ times ++ (0 ∷ 0 ∷ 0 ∷ 0 ∷ 0xc0 ∷ 0x7f ∷ 0 ∷ 0 ∷ 0 ∷ 0 ∷ 0 ∷ 0 ∷ 0x80 ∷ 0xff ∷ []))
unfolding put
gain_records = (refl, refl, refl)

-- number 0807060504030201; an end that is +infinity, 7FF0000000000000; the NaN, 7FF8000000000000
pub other_records :
    (put (edit 4 0x0807_0605_0403_0201 (fin false 3 (negsuc 0)) (fin false 1 (pos 1))) ≡ 0x04 ∷ 1 ∷ 2 ∷ 3 ∷ 4 ∷ 5 ∷ 6 ∷ 7 ∷ 8 ∷ take 16 times)
    × (put (edit 5 (2 ^ 64 - 1) (inf false) nan) ≡ 0x05 ∷ replicate 8 0xff ++ (replicate 6 0 ++ (0xf0 ∷ 0x7f ∷ replicate 6 0 ++ (0xf8 ∷ 0x7f ∷ []))))
    × (put (creation 255 1 (2 ^ 64 - 1)) ≡ 0x00 ∷ 0xff ∷ 0x01 ∷ replicate 8 0xff)
    × (put (block 255) ≡ 0x07 ∷ 0xff ∷ [])
    × (put (bare 8) ≡ 0x08 ∷ [])
unfolding put
other_records = (refl, refl, refl, refl, refl)

-- ---- "leaving every other byte"
pub other_bytes : (after (block 64) (1 ∷ 2 ∷ 3 ∷ 4 ∷ []) 1 ≡ 1 ∷ 7 ∷ 64 ∷ 4 ∷ []) × (after (block 64) (1 ∷ 2 ∷ 3 ∷ 4 ∷ []) 2 ≡ 1 ∷ 2 ∷ 7 ∷ 64 ∷ []) × (after (bare 8) (1 ∷ []) 0 ≡ 8 ∷ [])
unfolding after
other_bytes = (refl, refl, refl)

-- ---- "If the free place lies past the buffer's end, or the remainder is shorter than the record, the answer is 19": one byte short, at the end and past it, of each length; the last free places of a machine word
pub nineteen :
    answer (creation 1 0 1) (replicate 11 0) 0 ∷ answer (creation 1 0 1) (replicate 11 0) 1 ∷ answer (push 1 0 0 one one 0 0 one) (replicate 43 0) 0 ∷ answer (push 1 0 0 one one 0 0 one) (replicate 42 0) 0 ∷ answer (push 10 0 0 one one 0 0 one) (replicate 47 0) 0
    ∷ answer (push 10 0 0 one one 0 0 one) (replicate 46 0) 0 ∷ answer (bare 6) (0 ∷ []) 0 ∷ answer (bare 6) (0 ∷ []) 1 ∷ answer (bare 6) [] 0 ∷ answer (bare 8) (0 ∷ []) 2 ∷ answer (block 2) (replicate 3 0) (2 ^ 64 - 1) ∷ answer (edit 4 1 one one) (replicate 60 0) (2 ^ 64 - 25) ∷ []
    ≡ Ok 11 ∷ Err NoRoom ∷ Ok 43 ∷ Err NoRoom ∷ Ok 47
    ∷ Err NoRoom ∷ Ok 1 ∷ Err NoRoom ∷ Err NoRoom ∷ Err NoRoom ∷ Err NoRoom ∷ Err NoRoom ∷ []
unfolding answer
nineteen = refl

-- ---- "an undefined kind, mode, curve or source, or channels or a block size above 255, is 14, before 19": with room, and at a free place past the end; no engine limit is asked
pub fourteen :
    answer (bare 13) (replicate 50 0) 0 ∷ answer (bare 256) (replicate 50 0) 0 ∷ answer (bare (2 ^ 64 - 1)) [] 9 ∷ answer (creation 256 0 1) (replicate 50 0) 0 ∷ answer (creation 1 2 1) (replicate 50 0) 0 ∷ answer (creation 256 0 1) [] 1 ∷ answer (push 1 2 0 one one 0 0 one) (replicate 50 0) 0
    ∷ answer (push 12 0 3 one one 0 0 one) (replicate 50 0) 0 ∷ answer (push 2 256 0 one one 0 0 one) [] 0 ∷ answer (push 11 0 258 one one 0 0 one) [] 7 ∷ answer (block 256) (replicate 50 0) 0 ∷ answer (block 256) [] 0 ∷ answer (creation 0 1 0) (replicate 50 0) 0 ∷ answer (creation 9 0 1) (replicate 50 0) 0 ∷ answer (block 65) (replicate 50 0) 0 ∷ []
    ≡ Err Undefined ∷ Err Undefined ∷ Err Undefined ∷ Err Undefined ∷ Err Undefined ∷ Err Undefined ∷ Err Undefined
    ∷ Err Undefined ∷ Err Undefined ∷ Err Undefined ∷ Err Undefined ∷ Err Undefined ∷ Ok 11 ∷ Ok 11 ∷ Ok 2 ∷ []
unfolding answer
fourteen = refl

-- the greatest that are written, behind other bytes
pub accepted_edges :
    answer (push 12 1 2 one one 0 0 one) (replicate 50 0) 3 ∷ answer (creation 255 1 0) (replicate 50 0) 2 ∷ answer (block 255) (replicate 50 0) 1 ∷ answer (rate one) (replicate 50 0) 41 ∷ []
    ≡ Ok 50 ∷ Ok 13 ∷ Ok 3 ∷ Ok 50 ∷ []
unfolding answer
accepted_edges = refl

-- "no byte changes"
pub nothing-changed : (after (block 2) (1 ∷ 2 ∷ 3 ∷ []) 2 ≡ 1 ∷ 2 ∷ 3 ∷ []) × (after (block 256) (1 ∷ 2 ∷ 3 ∷ []) 0 ≡ 1 ∷ 2 ∷ 3 ∷ [])
unfolding after
nothing-changed = (refl, refl)

-- ---- "the same call": what the arguments say, kind by kind
unfoldable pub called : Arguments → Call
unfolding call_by push_from edit_from source_from
called a = call_from a

abbrev record_of : Fade → Source → Float → PushRecord
record_of curve source gain = record { start_time = fin false 3 (negsuc 0); end_time = fin false 1 (pos 1); fade_in = fin false 1 (negsuc 0); fade_out = fin false 1 (negsuc 1); fade_ease = curve; source = source; gain = gain }

abbrev edit_of_lem : EditRecord
edit_of_lem = record { id = record { 0 = 7 }; end_time = fin false 3 (negsuc 0); fade_out = fin false 1 (pos 1) }

abbrev three : Float
three = fin false 3 (pos 0)

abbrev four : Float
four = fin false 1 (pos 2)

pub push-calls :
    called (push 1 0 0 three four 5 6 nan) ∷ called (push 2 1 1 three four 5 6 nan) ∷ called (push 3 0 2 three four 5 6 nan) ∷ called (push 10 1 0 three four 5 6 four) ∷ called (push 11 0 1 three four 5 6 four) ∷ called (push 12 1 2 three four 5 6 four) ∷ []
    ≡ Push (record_of Power (Held three) one) ∷ PushRelative (record_of Smooth (Ramp three four) one) ∷ PushDuration (record_of Power (Clip 5 6) one) ∷ Push (record_of Smooth (Held three) four) ∷ PushRelative (record_of Power (Ramp three four) four) ∷ PushDuration (record_of Smooth (Clip 5 6) four) ∷ []
unfolding called
push-calls = refl

pub other-calls :
    called (creation 9 0 7) ∷ called (creation 9 1 7) ∷ called (edit 4 7 (fin false 3 (negsuc 0)) (fin false 1 (pos 1))) ∷ called (edit 5 7 (fin false 3 (negsuc 0)) (fin false 1 (pos 1))) ∷ called (bare 6) ∷ called (block 3) ∷ called (bare 8) ∷ called (rate four) ∷ []
    ≡ Create 9 All 7 ∷ Create 9 None 7 ∷ Edit edit_of_lem ∷ EditRelative edit_of_lem ∷ Tick ∷ Process 3 ∷ Reset ∷ SetSampleRate four ∷ []
unfolding called
other-calls = refl

-- ---- the arguments of a call that was read, put down again; a push's unused word, where its source is held
unfoldable pub again : (kind : ℕ) → Call → List ℕ
unfolding put
again k call = put (arguments_of k call)

pub calls-again :
    again 1 (Push (record_of Power (Held three) one)) ∷ again 2 (PushRelative (record_of Smooth (Ramp three four) one)) ∷ again 3 (PushDuration (record_of Power (Clip 5 6) one)) ∷ again 10 (Push (record_of Smooth (Held three) four)) ∷ again 12 (PushDuration (record_of Smooth (Clip 5 6) four)) ∷ []
    ≡ put (push 1 0 0 three nan 999 999 nan) ∷ put (push 2 1 1 three four 999 999 nan) ∷ put (push 3 0 2 nan nan 5 6 nan) ∷ put (push 10 1 0 three nan 999 999 four) ∷ put (push 12 1 2 nan nan 5 6 four) ∷ []
unfolding again put
calls-again = refl

pub others_again :
    again 0 (Create 9 None 7) ∷ again 0 (Create 9 All 7) ∷ again 4 (Edit edit_of_lem) ∷ again 5 (EditRelative edit_of_lem) ∷ again 6 Tick ∷ again 7 (Process 3) ∷ again 8 Reset ∷ again 9 (SetSampleRate four) ∷ []
    ≡ put (creation 9 1 7) ∷ put (creation 9 0 7) ∷ put (edit 4 7 (fin false 3 (negsuc 0)) (fin false 1 (pos 1))) ∷ put (edit 5 7 (fin false 3 (negsuc 0)) (fin false 1 (pos 1))) ∷ put (bare 6) ∷ put (block 3) ∷ put (bare 8) ∷ put (rate four) ∷ []
unfolding again put
others_again = refl

pub unused-words :
    unused (take 39 example ++ (1 ∷ 2 ∷ 0 ∷ 0 ∷ 9 ∷ [])) (Push (record_of Power (Held three) one)) ∷ unused (take 39 example ++ (1 ∷ 2 ∷ 0 ∷ 0 ∷ 9 ∷ [])) (PushRelative (record_of Power (Held three) one)) ∷ unused (take 39 example ++ (1 ∷ 2 ∷ 0 ∷ 0 ∷ 9 ∷ [])) (PushDuration (record_of Power (Held three) one))
    ∷ unused (take 39 example ++ (1 ∷ 2 ∷ 0 ∷ 0 ∷ [])) (Push (record_of Power (Ramp three four) one)) ∷ unused (take 39 example ++ (1 ∷ 2 ∷ 0 ∷ 0 ∷ [])) (Push (record_of Power (Clip 5 6) one)) ∷ unused (replicate 60 1) (Edit edit_of_lem) ∷ []
    ≡ 513 ∷ 513 ∷ 513 ∷ 0 ∷ 0 ∷ 0 ∷ []
unfolding field from_little_endian
unused-words = refl
