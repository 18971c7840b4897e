-- Document 02, Paper 1: the records of a run of pushes, as bytes. They are the tape's (crate tape), without its record 00. Assumes nothing.
use Rattle.std.specs.Prelude.{ℕ, Bool, not, ◌||◌, cond, List, ltb, eqb, length}
use Rattle.ledger.specs.Calls.{Call, PushKind}
use Rattle.tape.specs.Tape.{kind_of, plain_kind, push_kind, unknown_push, size_of, push_of}
use Rattle.apply.specs.Applying.{push_kind_of}
use Rattle.apply.specs.RecordCalls.{push_call}

-- "A count above 32, or a slice of another length, is refused as 16 before any record is read."
unfoldable pub beyond : (count length : ℕ) → Bool
beyond count n = ltb 32 count || not (eqb n 32)

-- "A record that is no push stops it as 14, a cut or missing one as 15": of the record that begins the bytes, or 0. Its kind byte alone says whether it is a push; within a push 14 looks at the bytes that are there and precedes 15, as on a tape.
unfoldable pub stop_of : List ℕ → ℕ
stop_of bs =
    cond (eqb (length bs) 0) 15
    (cond (not (push_kind (kind_of bs))) 14
    (cond (unknown_push bs) 14
    (cond (ltb (length bs) (size_of (kind_of bs))) 15 0)))

-- the kind of the push that begins the bytes, and its call
abbrev pub kind_at : List ℕ → PushKind
kind_at bs = push_kind_of (plain_kind (kind_of bs))

unfoldable pub call_of : List ℕ → Call
call_of bs = push_call (kind_at bs) (push_of bs)
