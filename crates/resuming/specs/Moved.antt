-- A program may move the bytes that are still to be read to the front of its buffer: the run from there on is the same, and its cursor stands as many bytes further back. Assumes nothing.
use Rattle.std.specs.Prelude.{◌≡◌, Bool, Float, drop}
use mathlib.Core.List.{List}
use Prim.Native.Nat.{ℕ, ◌-◌}
use Rattle.sequencer.specs.declared.Sequencer.{Sequencer}
use Rattle.tape.specs.declared.reader.Cursor.{Cursor}
use Rattle.tape.specs.declared.reader.Read.{Read}
use Rattle.record_output.specs.declared.Form.{Form}
use Rattle.player.specs.Records.{Ran, stops, ran}

-- a cursor with k bytes fewer before it, and what the records leave, with such a cursor
abbrev pub back : (k : ℕ) → Cursor → Cursor
back k c = record { at = c.at - k; first = c.first }

abbrev pub cursor_back : (k : ℕ) → Ran → Ran
cursor_back k r = stops r.sequencer (back k r.cursor) r.written r.pause

-- what is read with such a cursor
abbrev pub read_back : (k : ℕ) → Read → Read
read_back k (Read.Record kind call next) = Read.Record kind call (back k next)
read_back k (Read.Refused kind n) = Read.Refused kind n
read_back k Read.End = Read.End

module _ (form : Form) (pool : List Float) (k : ℕ) (tape : List ℕ) (whole : Bool) where
  -- the law at an engine and a cursor
  abbrev pub Moves : Sequencer → Cursor → (room : ℕ) → Type 0
  Moves s c room = ran form pool (drop k tape) whole s (back k c) room ≡ cursor_back k (ran form pool tape whole s c room)
