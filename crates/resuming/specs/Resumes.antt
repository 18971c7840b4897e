-- A run of records that paused, for room or for bytes, and is gone on with where it stopped. Assumes nothing.
use Rattle.std.specs.Prelude.{ℕ, ◌-◌, ◌≡◌, Bool, true, false, cond, List, Float, length}
use Rattle.sequencer.specs.declared.Sequencer.{Sequencer}
use Rattle.tape.specs.declared.reader.Cursor.{Cursor}
use Rattle.record_output.specs.declared.Form.{Form}
use Rattle.record_output.specs.declared.Pause.{Pause}
use Rattle.record_output.specs.declared.Pause.TheVariants.{End, Refused, Full, Short}
use Rattle.player.specs.Records.{Ran, behind, ran}

-- a run that paused for room or for bytes waits to be gone on with; one that came to the tape's end, or to a refusal that stops the tape, does not
abbrev pub waits : Pause → Bool
waits Full = true
waits Short = true
waits End = false
waits (Refused k) = false

-- of so much room, what a run did not use
abbrev pub room_after : (room : ℕ) → Ran → ℕ
room_after room r = room - length r.written

-- what a part's run left, gone on with on the whole tape if it waits: from its engine and cursor, behind what it wrote, in the room after it
abbrev pub resumed : Form → (pool : List Float) → (tape : List ℕ) → (room : ℕ) → Ran → Ran
resumed form pool tape room r = cond (waits r.pause) (behind r.written (ran form pool tape true r.sequencer r.cursor (room_after room r))) r

-- the law at an engine and a cursor: the tape's run, with all the room, is the part's run gone on with
abbrev pub Resumes : Form → (pool : List Float) → (part : List ℕ) → (whole : Bool) → (tape : List ℕ) → Sequencer → Cursor → (room all : ℕ) → Type 0
Resumes form pool part whole tape s c room all = ran form pool tape true s c all ≡ resumed form pool tape all (ran form pool part whole s c room)
