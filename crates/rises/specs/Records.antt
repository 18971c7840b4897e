-- Document 02, Paper 13: "writes to standard output a tape that reaches that sum". Which records a tape has, as its reader reads them one after another.
use Rattle.std.specs.Prelude.{◌≡◌, ℕ, true, List, [], ◌∷◌, map}
use Rattle.event.specs.declared.ReplayMode.TheVariants.{All}
use Rattle.ledger.specs.Calls.{absolute, relative, by_duration}
use Rattle.tape.specs.Tape.{read_at}
use Rattle.tape.specs.declared.reader.Cursor.{Cursor}
use Rattle.tape.specs.declared.reader.Call.{Call}
use Rattle.tape.specs.declared.reader.Call.TheVariants as call
use Rattle.tape.specs.declared.reader.Read.TheVariants.{Record, End}
use Rattle.rises.specs.Totals.{Push, total_rise, accepted_of, bound}
use Rattle.rises.specs.Arrangement.{fresh_one, arrangement}
use Rattle.rises.specs.Tapes.{tape_of}

-- a record: its kind and its call
abbrev pub TapeRecord : Type 0
TapeRecord = ℕ × Call

-- from the cursor on the tape has these records, each where the one before it ends, and then its end
unfoldable pub Reads : (tape : List ℕ) → Cursor → List TapeRecord → Type 0
Reads tape c [] = read_at tape c ≡ End
Reads tape c (r ∷ rs) = (next : Cursor) × (read_at tape c ≡ Record r.0 r.1 next) × Reads tape next rs

-- the cursor of a tape that is not begun
abbrev pub fresh : Cursor
fresh = record { at = 0; first = true }

-- "01 push, 02 relative, 03 by duration" (document 01)
abbrev pub push_record : Push → TapeRecord
push_record (absolute, p) = (1, call.Push p)
push_record (relative, p) = (2, call.PushRelative p)
push_record (by_duration, p) = (3, call.PushDuration p)

-- "record 00 with one channel, All, first number 1, then n pushes 01": the arrangement's
abbrev pub records_of : (n : ℕ) → List TapeRecord
records_of n = (0, call.Create 1 All 1) ∷ map push_record (arrangement n)

-- the tape has these records; all n pushes are accepted on the engine that record 00 makes, and their rises add up to the bound
pub record Reaches (n : ℕ) : Type 0 where
  pub records : Reads (tape_of n) fresh (records_of n)
  pub accepted : accepted_of fresh_one (arrangement n) ≡ n
  pub sum : total_rise fresh_one (arrangement n) ≡ bound n
