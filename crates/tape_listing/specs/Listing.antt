-- Document 01's listing of a tape, with any pool, over the plain ledger. No engine stands here. Assumes nothing.
use Rattle.std.specs.Prelude.{ℕ, zero, suc, true, cond, List, [], ◌++◌, eqb, Float, length}
use Rattle.event.specs.declared.ReplayMode.TheVariants.{All}
use Rattle.ledger.specs.Ledger.{Ledger, fresh}
use Rattle.listing.specs.Text.{counts_line}
use Rattle.tape.specs.declared.reader.Call.{Call}
use Rattle.tape.specs.declared.reader.Call.TheVariants.{Create, Push, PushRelative, PushDuration, Edit, EditRelative, Tick, Process, Reset, SetSampleRate}
use Rattle.tape.specs.declared.reader.Cursor.{Cursor}
use Rattle.tape.specs.declared.reader.Read.{Read}
use Rattle.tape.specs.declared.reader.Read.TheVariants.{Record, Refused, End}
use Rattle.tape.specs.Tape.{read_at}
use Rattle.tape.specs.Pool.{trail_pool}
use Rattle.record_output.specs.Lines.{channel_lines}
use Rattle.tape_extent.specs.Playing.{Played, play}

-- "Each record prints its kind (two upper-case hexadecimal digits), refusal or 0, waiting, sounding, finished, let go": the lengths of W, S and F, and L
abbrev pub record_line : (kind refusal : ℕ) → Ledger → List ℕ
record_line kind refusal l = counts_line kind refusal (length l.waiting) (length l.sounding) (length l.finished) (length l.gone)

-- "an accepted tick or block adds a line per channel of its 1 or n samples' bits": the samples are there channel after channel
abbrev pub lines_per_channel : Played → (n : ℕ) → List ℕ
lines_per_channel p n = cond (eqb p.refusal 0) (channel_lines p.ledger.channels n n p.samples) []

abbrev pub sound_lines : Call → Played → List ℕ
sound_lines (Create channels mode first) p = []
sound_lines (Push q) p = []
sound_lines (PushRelative q) p = []
sound_lines (PushDuration q) p = []
sound_lines (Edit q) p = []
sound_lines (EditRelative q) p = []
sound_lines Tick p = lines_per_channel p 1
sound_lines (Process n) p = lines_per_channel p n
sound_lines Reset p = []
sound_lines (SetSampleRate r) p = []

-- what a record prints
unfoldable pub lines_of : (kind : ℕ) → Call → Played → List ℕ
unfolding channel_lines
lines_of kind call p = record_line kind p.refusal p.ledger ++ sound_lines call p

-- the rest of a listing: from a ledger and a cursor on
abbrev pub Rest : Type 0
Rest = Ledger → Cursor → List ℕ

-- "Refusals 1, 14, 15 stop it, counts as before (0 if no engine; a missing body prints its kind)": what 1 refuses leaves a ledger that holds nothing
unfoldable pub after_record : Rest → (kind : ℕ) → Call → Played → (next : Cursor) → List ℕ
unfolding lines_of
after_record rest kind call p next = lines_of kind call p ++ cond (eqb p.refusal 1) [] (rest p.ledger next)

-- 14 and 15: nothing was called
unfoldable pub after_read : (pool : List Float) → Rest → Read → Ledger → List ℕ
unfolding after_record play
after_read pool rest (Record kind call next) l = after_record rest kind call (play pool l call) next
after_read pool rest (Refused kind number) l = record_line kind number l
after_read pool rest End l = []

-- at most f records
unfoldable pub listed_from : (pool : List Float) → (tape : List ℕ) → (f : ℕ) → Rest
unfolding after_read read_at
listed_from pool tape zero l c = []
listed_from pool tape (suc f) l c = after_read pool (listed_from pool tape f) (read_at tape c) l

-- A tape has no more records than bytes. Its first record, 00, replaces the ledger that stands here before it, which holds nothing.
unfoldable pub listed_with : (pool : List Float) → (tape : List ℕ) → List ℕ
unfolding listed_from fresh
listed_with pool tape = listed_from pool tape (length tape) (fresh 1 All 1) (record { at = 0; first = true })

-- "its pool is 4,096 samples, sample k, counted from 0, being k/4096"
abbrev pub listed : (tape : List ℕ) → List ℕ
listed tape = listed_with trail_pool tape
