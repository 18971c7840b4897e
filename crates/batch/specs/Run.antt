-- Document 02, Paper 1: a run of push records carried out one after another, on anything that has calls: the plain ledger, or the engine. Assumes nothing.
use Rattle.std.specs.Prelude.{ℕ, zero, suc, not, cond, List, [], ◌∷◌, ◌++◌, eqb, length, drop}
use Rattle.ledger.specs.Calls.{Call, Reply}
use Rattle.ledger.specs.Claim.{accepted_of}
use Rattle.apply.specs.RecordCalls.{refusal_of}
use Rattle.tape.specs.Tape.{kind_of, size_of}
use Rattle.batch.specs.Records.{beyond, stop_of, call_of}

-- what is left behind, the numbers issued, and "what ended it, 0 if nothing did"
pub record Pushed (S : Type 0) : Type 0 where
  pub state : S
  pub numbers : List ℕ
  pub ended : ℕ

abbrev pub ends : {S : Type 0} → S → (by : ℕ) → Pushed S
ends s k = record { state = s; numbers = []; ended = k }

-- with these numbers in front
abbrev pub behind : {S : Type 0} → List ℕ → Pushed S → Pushed S
behind ns p = record { state = p.state; numbers = ns ++ p.numbers; ended = p.ended }

-- "It behaves as the pushes one after another: the first refused one ends it, earlier ones stand." A record is read when its turn comes.
unfoldable pub push_run : {S : Type 0} → (S → Call → S × Reply) → (count : ℕ) → (records : List ℕ) → S → Pushed S
unfolding stop_of call_of
push_run call zero bs s = ends s 0
push_run call (suc n) bs s =
    let a = call s (call_of bs) in
    let no = refusal_of a.1.answer in
    let rest = push_run call n (drop (size_of (kind_of bs)) bs) a.0 in
    cond (eqb (stop_of bs) 0)
    (cond (eqb no 0) (behind (accepted_of a.1.answer) rest) (ends a.0 no))
    (ends s (stop_of bs))

-- the whole call: "only 16 refuses the whole call"
unfoldable pub push_all : {S : Type 0} → (S → Call → S × Reply) → (records : List ℕ) → (count : ℕ) → (slice : List ℕ) → S → Pushed S
unfolding beyond push_run
push_all call bs count slice s = cond (beyond count (length slice)) (ends s 16) (push_run call count bs s)

-- "puts the numbers issued into a lent slice of 32, the rest of it left"
abbrev pub written : (numbers slice : List ℕ) → List ℕ
written ns slice = ns ++ drop (length ns) slice
