-- The tape of n pushes reads back as record 00 and the arrangement's n pushes, and then ends: Paper 6's `read_back`, record after record.
use Rattle.std.specs.Prelude.{◌≡◌, ℕ, ◌+◌, false, List, ◌++◌, length, ◌==◌}
use Rattle.event.specs.declared.ReplayMode.TheVariants.{All}
use Rattle.tape.specs.Tape.{size_of}
use Rattle.tape.specs.declared.reader.Cursor.{Cursor}
use Rattle.tape.specs.declared.reader.Call.TheVariants as call
use Rattle.tape_writer.specs.declared.Arguments.{Arguments}
use Rattle.tape_writer.specs.Writing.{bytes_of, undefined}
use Rattle.tape_writer.specs.Claim.{Typed, arguments_of}
use Rattle.rises.specs.Arrangement.{kth_push}

module _ (a : Arguments) (t : Typed a) (known : undefined a ≡ false) (front rest : List ℕ) (at : ℕ) (place : length front ≡ at) where
  abbrev pub tape : List ℕ
  tape = front ++ (bytes_of a ++ rest)

  abbrev pub here : Cursor
  here = record { at = at; first = (a.kind == 0) }

  abbrev pub next : Cursor
  next = record { at = at + size_of a.kind; first = false }

-- ---- the two kinds of records

abbrev pub creation : Arguments
creation = arguments_of 0 (call.Create 1 All 1)

abbrev pub kth : (n k : ℕ) → Arguments
kth n k = arguments_of 1 (call.Push (kth_push n k))
