-- A refused call changes nothing, lent lists included, of the ledger and of what replies alike; a call that is not refused passed all its checks.
use Rattle.std.specs.Prelude.{ℕ, ◌≡◌, not, List, [], ◌∷◌, T, Float}
use Rattle.std.proofs.Math.Option.{Option, none, some}
use Rattle.ledger.specs.Calls.{Call, push, edit, tick, block, rate, reset, Answer, number, applied, past, stored, done, rendered, refused}
use Rattle.ledger.specs.Ledger.{Ledger}
use Rattle.ledger.specs.Refusals.{Check, refuses}
use Rattle.ledger.specs.Steps.{Outcome}

-- ---- what is lent to a call to be written

abbrev pub lent_out : Call → List Float
lent_out (push kind start end fade_in fade_out curve source gain) = []
lent_out (edit kind n end fade_out) = []
lent_out (tick order pool out) = out
lent_out (block order n pool out scratch) = out
lent_out (rate r) = []
lent_out reset = []

abbrev pub lent_scratch : Call → Option (List Float)
lent_scratch (push kind start end fade_in fade_out curve source gain) = none
lent_scratch (edit kind n end fade_out) = none
lent_scratch (tick order pool out) = none
lent_scratch (block order n pool out scratch) = scratch
lent_scratch (rate r) = none
lent_scratch reset = none

-- ---- a call that is answered with a refusal

pub record Unchanged (l : Ledger) (c : Call) (o : Outcome) : Type 0 where
  pub ledger : o.ledger ≡ l
  pub out : o.reply.out ≡ lent_out c
  pub scratch : o.reply.scratch ≡ lent_scratch c

-- a refusal is the only answer that has a number of document 01's list
abbrev pub refused_with : Answer → Option ℕ
refused_with (number k) = none
refused_with applied = none
refused_with past = none
refused_with stored = none
refused_with done = none
refused_with (rendered c) = none
refused_with (refused k) = some k

-- ---- a call that no refusal names

abbrev pub AllPass : List Check → Type 0
AllPass [] = Unit {0}
AllPass (refuses k b ∷ l) = T (not b) × AllPass l
