-- What `trail_wav` puts down record after record, with `apply` and `put_frames`, is the data that the plain ledger gives the tape. Assumes nothing.
use Rattle.std.specs.Prelude.{◌≡◌, ℕ, zero, suc, true, cond, List, [], ◌++◌, length, replicate, ◌==◌, Float}
use Rattle.apply.specs.declared.Applied.{Applied}
use Rattle.apply.specs.Applying.{applied_to, applied_out}
use Rattle.event.specs.declared.ReplayMode.TheVariants.{All}
use Rattle.floats.specs.Arithmetic.{zeroᶠ}
use Rattle.ledger.specs.Ledger.{Ledger}
use Rattle.render.specs.Follows.{Follows}
use Rattle.sequencer.specs.declared.Sequencer.{Sequencer}
use Rattle.sequencer.specs.Creation.{created}
use Rattle.tape.specs.declared.reader.Cursor.{Cursor}
use Rattle.tape.specs.declared.reader.Read.{Read}
use Rattle.tape.specs.declared.reader.Read.TheVariants.{Record, Refused, End}
use Rattle.tape.specs.Tape.{read_at}
use Rattle.wav.specs.Data as Data
use Rattle.wav.specs.Data.{record_data, data_from, tape_data}
use Rattle.wav.specs.Frames.{frames_from, data_bytes}

-- the rest of what is written: from an engine and a cursor on, with the output that is lent to each record's call
abbrev pub Rest : Type 0
Rest = Sequencer → Cursor → (out : List Float) → List ℕ

-- refusal 1 ends it
unfoldable pub after_call : Rest → Applied → (out : List Float) → (next : Cursor) → List ℕ
unfolding data_bytes
after_call rest a out next = cond (a.refusal == 1) [] (data_bytes a.channels a.each a.stride out ++ rest a.sequencer next out)

-- 14, 15 and the tape's end end it
unfoldable pub after_read : (pool : List Float) → Rest → Read → Sequencer → (out : List Float) → List ℕ
unfolding after_call applied_to applied_out
after_read pool rest (Record kind call next) s out = after_call rest (applied_to pool s call out) (applied_out pool s call out) next
after_read pool rest (Refused kind number) s out = []
after_read pool rest End s out = []

-- at most f records
unfoldable pub written_from : (pool : List Float) → (tape : List ℕ) → (f : ℕ) → Rest
unfolding after_read read_at
written_from pool tape zero s c out = []
written_from pool tape (suc f) s c out = after_read pool (written_from pool tape f) (read_at tape c) s out

-- from `apply::start` on, with the output `apply::silence`
unfoldable pub written : (pool : List Float) → (tape : List ℕ) → List ℕ
unfolding written_from created
written pool tape = written_from pool tape (length tape) (created 1 All 1).sequencer (record { at = 0; first = true }) (replicate 512 zeroᶠ)

-- ---- one record: the engine's channels and frames are the ledger's

-- n frames of each of c channels
abbrev pub interleave : (c n : ℕ) → List Float → List Float
interleave c n xs = frames_from c n n xs 0

-- ---- all records

-- two rests that are the same wherever the engine follows the ledger
abbrev pub Same : Rest → Data.Rest → Type 0
Same rest rest' = (s : Sequencer) (l : Ledger) (c : Cursor) (out : List Float) → length out ≡ 512 → Follows s l → rest s c out ≡ rest' l c
