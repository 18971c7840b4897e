-- Document 01's C entry, with any pool: the bytes that the plain ledger's samples for a tape make. No engine stands here. Assumes nothing.
use Rattle.std.specs.Prelude.{List, [], ◌++◌, true, cond, ℕ, zero, suc, ◌-◌, Float, length, ltb, eqb}
use Rattle.event.specs.declared.ReplayMode.TheVariants.{All}
use Rattle.ledger.specs.Ledger.{Ledger, fresh}
use Rattle.tape.specs.declared.reader.Cursor.{Cursor}
use Rattle.tape.specs.declared.reader.Read.{Read}
use Rattle.tape.specs.declared.reader.Read.TheVariants.{Record, Refused, End}
use Rattle.tape.specs.Tape.{read_at}
use Rattle.tape.specs.Pool.{trail_pool}
use Rattle.record_output.specs.Bytes.{bytes_of}
use Rattle.tape_extent.specs.Playing.{Played, play}

-- the rest of a rendering: from a ledger and a cursor on, with so much room left
abbrev pub Rest : Type 0
Rest = Ledger → Cursor → (room : ℕ) → List ℕ

-- refusal 1 stops it, and so does a tick or block whose samples do not fit
unfoldable pub after_record : Rest → Played → (next : Cursor) → (room : ℕ) → List ℕ
unfolding bytes_of
after_record rest p next room =
    let bytes = bytes_of p.samples in
    cond (eqb p.refusal 1) [] (cond (ltb room (length bytes)) [] (bytes ++ rest p.ledger next (room - length bytes)))

-- 14, 15 and the tape's end stop it
unfoldable pub after_read : (pool : List Float) → Rest → Read → Ledger → (room : ℕ) → List ℕ
unfolding after_record play
after_read pool rest (Record kind call next) l room = after_record rest (play pool l call) next room
after_read pool rest (Refused kind number) l room = []
after_read pool rest End l room = []

-- at most f records
unfoldable pub rendered_from : (pool : List Float) → (tape : List ℕ) → (f : ℕ) → Rest
unfolding after_read read_at
rendered_from pool tape zero l c room = []
rendered_from pool tape (suc f) l c room = after_read pool (rendered_from pool tape f) (read_at tape c) l room

-- A tape has no more records than bytes. Its first record, 00, replaces the ledger that stands here before it.
unfoldable pub rendered_with : (pool : List Float) → (tape : List ℕ) → (room : ℕ) → List ℕ
unfolding rendered_from fresh
rendered_with pool tape room = rendered_from pool tape (length tape) (fresh 1 All 1) (record { at = 0; first = true }) room

-- "with `trail`'s pool"
abbrev pub rendered : (tape : List ℕ) → (room : ℕ) → List ℕ
rendered tape room = rendered_with trail_pool tape room
