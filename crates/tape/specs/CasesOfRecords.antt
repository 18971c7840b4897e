-- Document 01, "The tape", and Paper 5's kinds: records of every kind, cut ones and unknown bytes, by computation (the example tape is `Example`). Assumes nothing.
use Rattle.std.specs.Prelude.{◌≡◌, ℕ, true, false, List, [], ◌∷◌, ◌++◌, take, replicate, pos, negsuc, refl, Float}
use Rattle.std.specs.Float.{nan, fin}
use Rattle.std.specs.Float.Ieee.{of_bits}
use Rattle.event.specs.declared.Fade.{Fade}
use Rattle.event.specs.declared.Fade.TheVariants.{Power, Smooth}
use Rattle.event.specs.declared.ReplayMode.TheVariants.{None}
use Rattle.event.specs.declared.Source.{Source}
use Rattle.event.specs.declared.Source.TheVariants.{Held, Ramp, Clip}
use Rattle.tape.specs.declared.reader.Cursor.{Cursor}
use Rattle.tape.specs.declared.reader.PushRecord.{PushRecord}
use Rattle.tape.specs.declared.reader.EditRecord.{EditRecord}
use Rattle.tape.specs.declared.reader.Read.{Read}
use Rattle.tape.specs.declared.reader.Read.TheVariants.{Record, Refused}
use Rattle.tape.specs.declared.reader.Call.TheVariants.{Create, Push, PushRelative, PushDuration, Edit, EditRelative, Tick, Process, Reset, SetSampleRate}
use Rattle.tape.specs.Fields.{field, from_little_endian}
use Rattle.tape.specs.Tape.{read_at, record_of, call_of, push_of, edit_of, source_of, unknown, push_kind, size_of, sizes}

abbrev zeros : ℕ → List ℕ
zeros n = replicate n 0

-- the first record of a tape, and one at place 0 that is not the first
unfoldable pub first : List ℕ → Read
unfolding read_at record_of unknown push_kind size_of sizes call_of push_of edit_of source_of field from_little_endian of_bits
first bs = read_at bs (record { at = 0; first = true })

unfoldable pub later : List ℕ → Read
unfolding read_at record_of unknown push_kind size_of sizes call_of push_of edit_of source_of field from_little_endian of_bits
later bs = read_at bs (record { at = 0; first = false })

abbrev at : ℕ → Cursor
at n = record { at = n; first = false }

-- ---- records

-- 1.5, 2.0, 0.5, 0.25 as f64, little-endian, and the words 1, 2, 3, 4 and 5, 6, 7, 8
abbrev times : List ℕ
times = zeros 6 ++ (0xf8 ∷ 0x3f ∷ zeros 7 ++ (0x40 ∷ zeros 6 ++ (0xe0 ∷ 0x3f ∷ zeros 6 ++ (0xd0 ∷ 0x3f ∷ []))))

abbrev words : List ℕ
words = 1 ∷ 2 ∷ 3 ∷ 4 ∷ 5 ∷ 6 ∷ 7 ∷ 8 ∷ []

abbrev gained : Fade → Source → Float → PushRecord
gained curve source gain = record { start_time = fin false 3 (negsuc 0); end_time = fin false 1 (pos 1); fade_in = fin false 1 (negsuc 0); fade_out = fin false 1 (negsuc 1); fade_ease = curve; source = source; gain = gain }

-- "Records 01 to 03 mean gain 1.0"
abbrev push_record : Fade → Source → PushRecord
push_record curve source = gained curve source (fin false 1 (pos 0))

-- "01 push, 02 relative, 03 by duration: start, end or duration, fade-in, fade-out, curve byte (0 power, 1 smooth), source byte (0 held, 1 ramp, 2 clip), two 4-byte words". 3.0 is 40400000, 4.0 is 40800000; 04030201 is 67,305,985 and 08070605 is 134,678,021.
pub push_record_lem : later (0x01 ∷ times ++ (0 ∷ 1 ∷ 0 ∷ 0 ∷ 0x40 ∷ 0x40 ∷ 0 ∷ 0 ∷ 0x80 ∷ 0x40 ∷ [])) ≡ Record 0x01 (Push (push_record Power (Ramp (fin false 3 (pos 0)) (fin false 1 (pos 2))))) (at 43)
unfolding later
push_record_lem = refl

pub relative_record : later (0x02 ∷ times ++ (1 ∷ 2 ∷ words)) ≡ Record 0x02 (PushRelative (push_record Smooth (Clip 67_305_985 134_678_021))) (at 43)
unfolding later
relative_record = refl

-- a held source's second word is unused
pub duration_record : later (0x03 ∷ times ++ (0 ∷ 0 ∷ 0 ∷ 0 ∷ 0x40 ∷ 0x40 ∷ 5 ∷ 6 ∷ 7 ∷ 8 ∷ [])) ≡ Record 0x03 (PushDuration (push_record Power (Held (fin false 3 (pos 0))))) (at 43)
unfolding later
duration_record = refl

-- "the new tape kinds 0A, 0B and 0C are the same pushes with four gain bytes at the end of the body": 0.75 is 3F400000, -0.0 is 80000000, and 7FC00001 is a NaN
pub gain_records :
    (later (0x0a ∷ times ++ (0 ∷ 1 ∷ 0 ∷ 0 ∷ 0x40 ∷ 0x40 ∷ 0 ∷ 0 ∷ 0x80 ∷ 0x40 ∷ 0 ∷ 0 ∷ 0x40 ∷ 0x3f ∷ [])) ≡ Record 0x0a (Push (gained Power (Ramp (fin false 3 (pos 0)) (fin false 1 (pos 2))) (fin false 3 (negsuc 1)))) (at 47))
    × (later (0x0b ∷ times ++ (1 ∷ 2 ∷ words ++ (0 ∷ 0 ∷ 0 ∷ 0x80 ∷ 9 ∷ []))) ≡ Record 0x0b (PushRelative (gained Smooth (Clip 67_305_985 134_678_021) (fin true 0 (pos 0)))) (at 47))
    × (later (0x0c ∷ times ++ (0 ∷ 0 ∷ 0 ∷ 0 ∷ 0x40 ∷ 0x40 ∷ 5 ∷ 6 ∷ 7 ∷ 8 ∷ 1 ∷ 0 ∷ 0xc0 ∷ 0x7f ∷ [])) ≡ Record 0x0c (PushDuration (gained Power (Held (fin false 3 (pos 0))) nan)) (at 47))
unfolding later
gain_records = (refl, refl, refl)

-- 01 to 03 end behind their words: what follows is no gain
pub no_gain_bytes : later (0x01 ∷ times ++ (1 ∷ 2 ∷ words ++ (0 ∷ 0 ∷ 0x40 ∷ 0x3f ∷ []))) ≡ Record 0x01 (Push (push_record Smooth (Clip 67_305_985 134_678_021))) (at 43)
unfolding later
no_gain_bytes = refl

-- "04 edit, 05 relative: number, end, fade-out": 0807060504030201 is 578,437,695,752,307,201.
abbrev edit_record : EditRecord
edit_record = record { id = record { 0 = 578_437_695_752_307_201 }; end_time = fin false 3 (negsuc 0); fade_out = fin false 1 (pos 1) }

pub edit_records : (later (0x04 ∷ words ++ take 16 times) ≡ Record 0x04 (Edit edit_record) (at 25)) × (later (0x05 ∷ words ++ take 16 times) ≡ Record 0x05 (EditRelative edit_record) (at 25))
unfolding later
edit_records = (refl, refl)

-- "00: channels, mode (0 All, 1 None), first number u64"; "06 tick, 08 reset: empty. 07 block: size byte. 09 rate: f64"
pub other_records : (first (0x00 ∷ 2 ∷ 1 ∷ words) ≡ Record 0x00 (Create 2 None 578_437_695_752_307_201) (at 11))
    × (later (0x06 ∷ 9 ∷ []) ≡ Record 0x06 Tick (at 1)) × (later (0x07 ∷ 255 ∷ 9 ∷ []) ≡ Record 0x07 (Process 255) (at 2))
    × (later (0x08 ∷ 9 ∷ []) ≡ Record 0x08 Reset (at 1)) × (later (0x09 ∷ times) ≡ Record 0x09 (SetSampleRate (fin false 3 (negsuc 0))) (at 9))
unfolding first later
other_records = (refl, refl, refl, refl, refl)

-- The next cursor counts from this one, and no byte before it is read.
pub second_record : read_at (0xff ∷ 0xff ∷ 0x07 ∷ 0x03 ∷ []) (at 2) ≡ Record 0x07 (Process 3) (at 4)
unfolding read_at record_of unknown push_kind size_of sizes call_of
second_record = refl

-- ---- 15: "A tape ends inside a body": one byte short, of each kind that has a body; and a tape that ends behind the kind.
pub cut_records :
    first (zeros 10) ∷ later (0x01 ∷ zeros 41) ∷ later (0x02 ∷ zeros 41) ∷ later (0x03 ∷ zeros 41) ∷ later (0x04 ∷ zeros 23) ∷ later (0x05 ∷ zeros 23) ∷ later (0x07 ∷ []) ∷ later (0x09 ∷ zeros 7) ∷ later (0x01 ∷ []) ∷ []
    ≡ Refused 0x00 15 ∷ Refused 0x01 15 ∷ Refused 0x02 15 ∷ Refused 0x03 15 ∷ Refused 0x04 15 ∷ Refused 0x05 15 ∷ Refused 0x07 15 ∷ Refused 0x09 15 ∷ Refused 0x01 15 ∷ []
unfolding first later
cut_records = refl

-- the same of the gain bytes, three of them there, or none
pub cut-gains :
    later (0x0a ∷ zeros 45) ∷ later (0x0b ∷ zeros 45) ∷ later (0x0c ∷ zeros 45) ∷ later (0x0a ∷ zeros 42) ∷ later (0x0b ∷ []) ∷ []
    ≡ Refused 0x0a 15 ∷ Refused 0x0b 15 ∷ Refused 0x0c 15 ∷ Refused 0x0a 15 ∷ Refused 0x0b 15 ∷ []
unfolding first later
cut-gains = refl

-- ---- 14: "A tape's kind, mode, curve or source byte is unknown, its first record is not 00, or a later one is": with the whole body there, and where it is cut right behind the byte; cut before it, 15.
pub unknown_bytes :
    later (0x0d ∷ zeros 50) ∷ later (0xff ∷ []) ∷ first (0x00 ∷ 1 ∷ 2 ∷ zeros 8) ∷ later (0x00 ∷ zeros 10) ∷ first (0x09 ∷ zeros 8) ∷ later (0x01 ∷ zeros 32 ++ (2 ∷ zeros 9)) ∷ later (0x02 ∷ zeros 33 ++ (3 ∷ zeros 8)) ∷ later (0x03 ∷ zeros 32 ++ (2 ∷ [])) ∷ later (0x03 ∷ zeros 33 ++ (3 ∷ [])) ∷ later (0x03 ∷ zeros 33) ∷ []
    ≡ Refused 0x0d 14 ∷ Refused 0xff 14 ∷ Refused 0x00 14 ∷ Refused 0x00 14 ∷ Refused 0x09 14 ∷ Refused 0x01 14 ∷ Refused 0x02 14 ∷ Refused 0x03 14 ∷ Refused 0x03 14 ∷ Refused 0x03 15 ∷ []
unfolding first later
unknown_bytes = refl

-- the same of the pushes with a gain: an unknown curve or source byte, the gain bytes there, cut, or the body cut right behind the byte; and none of them is first
pub unknown-gains :
    later (0x0a ∷ zeros 32 ++ (2 ∷ zeros 13)) ∷ later (0x0b ∷ zeros 33 ++ (3 ∷ zeros 12)) ∷ later (0x0c ∷ zeros 32 ++ (2 ∷ zeros 12)) ∷ later (0x0a ∷ zeros 33 ++ (3 ∷ zeros 8)) ∷ later (0x0b ∷ zeros 32 ++ (2 ∷ [])) ∷ later (0x0b ∷ zeros 33) ∷ first (0x0a ∷ zeros 46) ∷ []
    ≡ Refused 0x0a 14 ∷ Refused 0x0b 14 ∷ Refused 0x0c 14 ∷ Refused 0x0a 14 ∷ Refused 0x0b 14 ∷ Refused 0x0b 15 ∷ Refused 0x0a 14 ∷ []
unfolding first later
unknown-gains = refl

-- Only pushes have a curve and a source byte, and only 00 a mode byte: what stands at those places of an edit or a rate is no such byte.
pub other_bytes : later (0x04 ∷ replicate 24 0xff ++ replicate 20 0xff) ≡ later (0x04 ∷ replicate 24 0xff)
unfolding later
other_bytes = refl
