-- A run's cursor goes on and stays within its tape. A run of lines that stopped for room, lent as much as any record may take, has read one.
-- Assumes nothing.
use Rattle.std.specs.Prelude.{◌≡◌, Float, length}
use Rattle.std.proofs.Math.Bool.{Bool}
use mathlib.Core.List.{List}
use Prim.Native.Nat.{ℕ, ◌≤◌}
use Rattle.sequencer.specs.declared.Sequencer.{Sequencer}
use Rattle.tape.specs.declared.reader.Cursor.{Cursor}
use Rattle.tape.specs.declared.reader.Call.{Call}
use Rattle.tape.specs.declared.reader.Read.{Read}
use Rattle.record_output.specs.declared.Form.{Form}
use Rattle.player.specs.Records.{Ran, ran}

-- of a tape of n bytes, what a run from a cursor leaves
abbrev pub Onward : (n : ℕ) → Cursor → Ran → Type 0
Onward n c r = (c.at ≤ r.cursor.at) × (c.at ≤ n → r.cursor.at ≤ n)

module _ (form : Form) (pool : List Float) (tape : List ℕ) (whole : Bool) where
  -- the law behind a record
  abbrev pub LaterFrom : Cursor → Type 0
  LaterFrom next = (t : Sequencer) (left : ℕ) → Onward (length tape) next (ran form pool tape whole t next left)

  abbrev pub Later : Read → Type 0
  Later r = (kind : ℕ) (call : Call) (next : Cursor) → r ≡ Read.Record kind call next → LaterFrom next
