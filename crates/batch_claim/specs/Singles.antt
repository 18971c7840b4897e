-- Document 02, Paper 1: "It behaves as the pushes one after another .. The engine and every number equal those of the single pushes."
-- The calls that a run is, of anything that has calls.
use Rattle.std.specs.Prelude.{ℕ, zero, suc, cond, ◌≡◌, List, [], ◌∷◌, eqb, length, drop}
use Rattle.ledger.specs.Calls.{Call, Reply}
use Rattle.ledger.specs.Claim.{accepted, Engine, calls}
use Rattle.tape.specs.Tape.{kind_of, size_of}
use Rattle.apply.specs.RecordCalls.{refusal_of}
use Rattle.batch.specs.Records.{beyond, stop_of, call_of}
use Rattle.batch.specs.Run.{Pushed}

-- ---- the calls that a run is

-- what a run of records says, read to its end or to the record that stops it: its calls, and that stop, 0 if there is none
pub record Reading : Type 0 where
  pub calls : List Call
  pub stop : ℕ

unfoldable pub reading : (count : ℕ) → (records : List ℕ) → Reading
unfolding stop_of call_of
reading zero bs = record { calls = []; stop = 0 }
reading (suc n) bs =
    let rest = reading n (drop (size_of (kind_of bs)) bs) in
    cond (eqb (stop_of bs) 0) (record { calls = call_of bs ∷ rest.calls; stop = rest.stop }) (record { calls = []; stop = stop_of bs })

-- of a list of calls those up to the first that is refused, that one included
unfoldable pub up_to_refused : {S : Type 0} → (S → Call → S × Reply) → List Call → S → List Call
up_to_refused call [] s = []
up_to_refused call (c ∷ cs) s =
    let a = call s c in
    let rest = up_to_refused call cs a.0 in
    c ∷ cond (eqb (refusal_of a.1.answer) 0) rest []

-- the first refusal of a list of replies, or k where none is one
unfoldable pub first_refusal : List Reply → (k : ℕ) → ℕ
first_refusal [] k = k
first_refusal (r ∷ l) k = cond (eqb (refusal_of r.answer) 0) (first_refusal l k) (refusal_of r.answer)

-- the single pushes of a whole call, and what stops it if none of them is refused; refused as 16 it has no push
unfoldable pub singles : {S : Type 0} → (S → Call → S × Reply) → (records : List ℕ) → (count : ℕ) → (slice : List ℕ) → S → List Call
unfolding beyond reading up_to_refused
singles call bs count slice s = cond (beyond count (length slice)) [] (up_to_refused call (reading count bs).calls s)

unfoldable pub stopped : (records : List ℕ) → (count : ℕ) → (slice : List ℕ) → ℕ
unfolding beyond reading
stopped bs count slice = cond (beyond count (length slice)) 16 (reading count bs).stop

-- ---- what they leave, their numbers, and what ended them

pub record AsSingles (E : Engine) (cs : List Call) (stop : ℕ) (s : E.State) (p : Pushed E.State) : Type 0 where
  pub state : p.state ≡ (calls E cs s).0
  pub numbers : p.numbers ≡ accepted (calls E cs s).1
  pub ended : p.ended ≡ first_refusal (calls E cs s).1 stop
