-- A tape's records on an engine, one after the other: the fold of a record's step (crate apply), from any engine and cursor on. Assumes nothing.
use Rattle.std.specs.Prelude.{ℕ, zero, suc, ◌-◌, Bool, true, false, cond, List, [], ◌++◌, ltb, eqb, Float, length, replicate}
use Rattle.event.specs.declared.ReplayMode.TheVariants.{All}
use Rattle.floats.specs.Arithmetic.{zeroᶠ}
use Rattle.sequencer.specs.declared.Sequencer.{Sequencer}
use Rattle.sequencer.specs.Creation.{created}
use Rattle.sequencer.specs.Readers.{counts_of}
use Rattle.tape.specs.declared.reader.Cursor.{Cursor}
use Rattle.tape.specs.declared.reader.Read.{Read}
use Rattle.tape.specs.declared.reader.Read.TheVariants as Read
use Rattle.tape.specs.Tape.{read_at}
use Rattle.apply.specs.declared.Applied.{Applied}
use Rattle.apply.specs.Applying.{applied_to, applied_out}
use Rattle.record_output.specs.declared.Form.{Form}
use Rattle.record_output.specs.declared.Form.TheVariants.{Bytes, Lines}
use Rattle.record_output.specs.declared.Pause.{Pause}
use Rattle.record_output.specs.declared.Pause.TheVariants.{End, Refused, Full, Short}
use Rattle.record_output.specs.Lines.{leaves, room_for}
use Rattle.record_output.specs.Endings.{ending, is_short}
use Rattle.player.specs.declared.Played.{Played}

-- what the records leave: an engine and a cursor to go on from, what is written, and why they stopped
pub record Ran : Type 0 where
  pub sequencer : Sequencer
  pub cursor : Cursor
  pub written : List ℕ
  pub pause : Pause

abbrev pub stops : Sequencer → Cursor → List ℕ → Pause → Ran
stops s c bytes p = record { sequencer = s; cursor = c; written = bytes; pause = p }

abbrev pub answer_of : Ran → Played
answer_of r = record { cursor = r.cursor; used = length r.written; pause = r.pause }

-- more is written before
abbrev pub behind : List ℕ → Ran → Ran
behind bytes r = stops r.sequencer r.cursor (bytes ++ r.written) r.pause

-- the rest: from an engine and a cursor on, with the output that the engine is lent and so much room left
abbrev pub Rest : Type 0
Rest = Sequencer → Cursor → (samples : List Float) → (room : ℕ) → Ran

-- what a record's call a leaves
abbrev pub left_by : Form → (kind : ℕ) → Applied → (samples : List Float) → List ℕ
left_by form kind a samples = leaves form kind a.refusal (counts_of a.sequencer) a.channels a.each a.stride samples

-- a record for which there is no room is not carried out; refusal 1 stops the tape
unfoldable pub after_call : Form → Rest → Sequencer → Cursor → (kind : ℕ) → Applied → (samples : List Float) → (next : Cursor) → (room : ℕ) → Ran
after_call form rest s c kind a samples next room =
    let bytes = left_by form kind a samples in
    cond (ltb room (room_for form bytes)) (stops s c [] Full)
    (cond (eqb a.refusal 1) (stops a.sequencer next bytes (Refused 1)) (behind bytes (rest a.sequencer next samples (room - length bytes))))

unfoldable pub after_read : Form → (pool : List Float) → Rest → Read → Sequencer → Cursor → (samples : List Float) → (room : ℕ) → Ran
unfolding after_call ending
after_read form pool rest (Read.Record kind call next) s c samples room = after_call form rest s c kind (applied_to pool s call samples) (applied_out pool s call samples) next room
after_read form pool rest (Read.Refused kind number) s c samples room =
    let e = ending form (Read.Refused kind number) (counts_of s) room in
    stops s c e.written e.pause
after_read form pool rest Read.End s c samples room = stops s c [] End

-- where no byte is left
abbrev pub at_end : (whole : Bool) → Pause
at_end true = End
at_end false = Short

-- at most f records
unfoldable pub ran_from : Form → (pool : List Float) → (tape : List ℕ) → (whole : Bool) → (f : ℕ) → Rest
unfolding after_read
ran_from form pool tape whole zero s c samples room = stops s c [] (at_end whole)
ran_from form pool tape whole (suc f) s c samples room =
    cond (is_short whole (length tape) c.at) (stops s c [] Short) (after_read form pool (ran_from form pool tape whole f) (read_at tape c) s c samples room)

-- a tape has no more records than bytes; the engine is lent an output of silence
unfoldable pub ran : Form → (pool : List Float) → (tape : List ℕ) → (whole : Bool) → Sequencer → Cursor → (room : ℕ) → Ran
unfolding ran_from
ran form pool tape whole s c room = ran_from form pool tape whole (length tape) s c (replicate 512 zeroᶠ) room

-- a whole tape's samples as bytes; its first record, 00, replaces the engine that stands here before it
abbrev pub played : (pool : List Float) → (tape : List ℕ) → (room : ℕ) → List ℕ
played pool tape room = (ran Bytes pool tape true (created 1 All 1).sequencer (record { at = 0; first = true }) room).written
