-- Document 02, Paper 1: "It takes a run of push records with their count, reads no further": how many bytes a run and the whole call read.
use Rattle.std.specs.Prelude.{ℕ, zero, suc, ◌+◌, cond, List, eqb, length, drop}
use Rattle.ledger.specs.Calls.{Call, Reply}
use Rattle.tape.specs.Tape.{kind_of, push_kind, size_of}
use Rattle.apply.specs.RecordCalls.{refusal_of}
use Rattle.batch.specs.Records.{beyond, stop_of, call_of}

-- how far the record that begins the bytes is read: a push to its end, of anything else the kind byte
abbrev pub reach : List ℕ → ℕ
reach bs = cond (push_kind (kind_of bs)) (size_of (kind_of bs)) 1

-- how many bytes a run reads: up to the record that ends it, or to the end of the last counted one
unfoldable pub bytes_read : {S : Type 0} → (S → Call → S × Reply) → (count : ℕ) → (records : List ℕ) → S → ℕ
unfolding stop_of call_of
bytes_read call zero bs s = 0
bytes_read call (suc n) bs s =
    let a = call s (call_of bs) in
    let rest = bytes_read call n (drop (size_of (kind_of bs)) bs) a.0 in
    reach bs + cond (eqb (stop_of bs) 0) (cond (eqb (refusal_of a.1.answer) 0) rest 0) 0

-- how many the whole call reads: "refused as 16 before any record is read"
unfoldable pub call_reads : {S : Type 0} → (S → Call → S × Reply) → (records : List ℕ) → (count : ℕ) → (slice : List ℕ) → S → ℕ
unfolding beyond bytes_read
call_reads call bs count slice s = cond (beyond count (length slice)) 0 (bytes_read call count bs s)
