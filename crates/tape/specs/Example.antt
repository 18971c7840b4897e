-- Document 01's example tape, read record by record. Assumes nothing.
use Rattle.std.specs.Prelude.{◌≡◌, ℕ, true, false, List, [], ◌∷◌, ◌++◌, pos, negsuc, refl, Float}
use Rattle.std.specs.Float.{fin}
use Rattle.std.specs.Float.Ieee.{of_bits}
use Rattle.event.specs.declared.Fade.TheVariants.{Smooth}
use Rattle.event.specs.declared.ReplayMode.TheVariants.{All}
use Rattle.event.specs.declared.Source.TheVariants.{Held}
use Rattle.tape.specs.declared.reader.Cursor.{Cursor}
use Rattle.tape.specs.declared.reader.Read.TheVariants.{Record, Refused, End}
use Rattle.tape.specs.declared.reader.Call.TheVariants.{Create, Push, Tick, Process, SetSampleRate}
use Rattle.tape.specs.Fields.{field, from_little_endian}
use Rattle.tape.specs.Tape.{read_at, record_of, call_of, push_of, source_of, unknown, push_kind, size_of, sizes}

-- 00 01 00 0100000000000000
abbrev creation : List ℕ
creation = 0x00 ∷ 0x01 ∷ 0x00 ∷ 0x01 ∷ 0 ∷ 0 ∷ 0 ∷ 0 ∷ 0 ∷ 0 ∷ 0 ∷ []

-- 09, 8.0
abbrev rate : List ℕ
rate = 0x09 ∷ 0 ∷ 0 ∷ 0 ∷ 0 ∷ 0 ∷ 0 ∷ 0x20 ∷ 0x40 ∷ []

-- 01, 0.0, 0.125, 0.0, 0.0, curve 1, source 0, level 1.0, word 0
abbrev pushed : List ℕ
pushed =
    0x01 ∷ 0 ∷ 0 ∷ 0 ∷ 0 ∷ 0 ∷ 0 ∷ 0 ∷ 0 ∷ 0 ∷ 0 ∷ 0 ∷ 0 ∷ 0 ∷ 0 ∷ 0xC0 ∷ 0x3F
    ∷ 0 ∷ 0 ∷ 0 ∷ 0 ∷ 0 ∷ 0 ∷ 0 ∷ 0 ∷ 0 ∷ 0 ∷ 0 ∷ 0 ∷ 0 ∷ 0 ∷ 0 ∷ 0 ∷ 1 ∷ 0 ∷ 0 ∷ 0 ∷ 0x80 ∷ 0x3F ∷ 0 ∷ 0 ∷ 0 ∷ 0 ∷ []

-- 07 02, then 06
abbrev pub example : List ℕ
example = creation ++ (rate ++ (pushed ++ (0x07 ∷ 0x02 ∷ 0x06 ∷ [])))

abbrev at : ℕ → Cursor
at n = record { at = n; first = false }

abbrev zero64 : Float
zero64 = fin false 0 (pos 0)

pub reads-creation : read_at example (record { at = 0; first = true }) ≡ Record 0x00 (Create 1 All 1) (at 11)
unfolding read_at record_of unknown size_of sizes call_of field from_little_endian
reads-creation = refl

pub reads-rate : read_at example (at 11) ≡ Record 0x09 (SetSampleRate (fin false 1 (pos 3))) (at 20)
unfolding read_at record_of unknown push_kind size_of sizes call_of field from_little_endian of_bits
reads-rate = refl

pub reads-push : read_at example (at 20) ≡ Record 0x01 (Push (record {
  start_time = zero64;
  end_time = fin false 1 (negsuc 2);
  fade_in = zero64;
  fade_out = zero64;
  fade_ease = Smooth;
  source = Held (fin false 1 (pos 0));
  gain = fin false 1 (pos 0);
})) (at 63)
unfolding read_at record_of unknown push_kind size_of sizes call_of push_of source_of field from_little_endian of_bits
reads-push = refl

pub reads-block : read_at example (at 63) ≡ Record 0x07 (Process 2) (at 65)
unfolding read_at record_of unknown push_kind size_of sizes call_of
reads-block = refl

pub reads_tick : read_at example (at 65) ≡ Record 0x06 Tick (at 66)
unfolding read_at record_of unknown push_kind size_of sizes call_of
reads_tick = refl

pub reads_end : read_at example (at 66) ≡ End
unfolding read_at
reads_end = refl

-- a later 00 is 14, also where its body is cut; a cut body is 15, and 14 if a byte that is there is unknown
pub later-creation : read_at (0x06 ∷ 0x00 ∷ []) (at 1) ≡ Refused 0x00 14
unfolding read_at record_of unknown
later-creation = refl

pub first_tick : read_at (0x06 ∷ []) (record { at = 0; first = true }) ≡ Refused 0x06 14
unfolding read_at record_of unknown
first_tick = refl

pub cut_body : read_at (0x00 ∷ 0x01 ∷ []) (record { at = 0; first = true }) ≡ Refused 0x00 15
unfolding read_at record_of unknown size_of sizes
cut_body = refl

pub cut-behind_mode : read_at (0x00 ∷ 0x01 ∷ 0x02 ∷ []) (record { at = 0; first = true }) ≡ Refused 0x00 14
unfolding read_at record_of unknown
cut-behind_mode = refl
