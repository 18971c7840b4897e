-- A run of records that paused, for room or for bytes, and is gone on with where it stopped is the run of the whole tape; one that stopped for good is that run already. Assumes nothing.
use Rattle.std.specs.Prelude.{◌≡◌, Float}
use Rattle.std.proofs.Math.Bool.{Bool}
use mathlib.Core.List.{List}
use Prim.Native.Nat.{ℕ, ◌≤◌}
use Rattle.sequencer.specs.declared.Sequencer.{Sequencer}
use Rattle.tape.specs.declared.reader.Cursor.{Cursor}
use Rattle.tape.specs.declared.reader.Call.{Call}
use Rattle.tape.specs.declared.reader.Read.{Read}
use Rattle.record_output.specs.declared.Form.{Form}
use Rattle.resuming.specs.Resumes.{Resumes}

module _ (form : Form) (pool : List Float) (tape : List ℕ) where
  -- the law behind a record
  abbrev pub Behind : (part : List ℕ) → (whole : Bool) → Read → Type 0
  Behind part whole r = (k : ℕ) (call : Call) (next : Cursor) → r ≡ Read.Record k call next → (t : Sequencer) (left rest : ℕ) → left ≤ rest → Resumes form pool part whole tape t next left rest
