-- Where no record is read: what is written, and why the records stop. Assumes nothing.
use Rattle.std.specs.Prelude.{◌≡◌, Bool, true, false, cond, List, [], ℕ, ◌+◌, ◌-◌, ◌≤◌, ltb, length}
use Rattle.std.proofs.lemmas.List.Edits.{sets}
use Rattle.sequencer.specs.declared.readers.Counts.{Counts}
use Rattle.tape.specs.declared.reader.Read.{Read}
use Rattle.tape.specs.declared.reader.Read.TheVariants as Read
use Rattle.record_output.specs.declared.Form.{Form}
use Rattle.record_output.specs.declared.Form.TheVariants.{Bytes, Lines}
use Rattle.record_output.specs.declared.Pause.{Pause}
use Rattle.record_output.specs.declared.Pause.TheVariants.{End, Refused, Full}
use Rattle.record_output.specs.Lines.{record_line, room_for}

-- of a tape that goes on, fewer bytes are left than a record may need (tape/specs/Window)
abbrev pub is_short : (whole : Bool) → (length at : ℕ) → Bool
is_short true n at = false
is_short false n at = ltb (n - at) 47

-- what is written, and why the records stop, where none is read: 14 and 15 have "counts as before"
pub record Ending : Type 0 where
  pub written : List ℕ
  pub pause : Pause

abbrev pub refused_line : Form → (kind number : ℕ) → Counts → List ℕ
refused_line Bytes kind number counts = []
refused_line Lines kind number counts = record_line kind number counts

unfoldable pub ending : Form → Read → Counts → (room : ℕ) → Ending
ending form (Read.Record kind call next) counts room = record { written = []; pause = End }
ending form (Read.Refused kind number) counts room =
    let line = refused_line form kind number counts in
    cond (ltb room (room_for form [])) (record { written = []; pause = Full }) (record { written = line; pause = Refused number })
ending form Read.End counts room = record { written = []; pause = End }

-- what is to be given back where the output has room from a place on: n bytes are in use
abbrev pub Gives : Ending → (before out : List ℕ) → (at : ℕ) → Pause → (n : ℕ) → Type 0
Gives e before out at p n = (p ≡ e.pause) × ((n ≡ at + length e.written) × ((out ≡ sets before at e.written) × (n ≤ length before)))
