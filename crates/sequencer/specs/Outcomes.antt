-- The outcomes of calls that are carried out with counts and of refused ones; and that the claim reads every answer back (`answer_of`) as it was named (`said`).
use Rattle.std.specs.Prelude.{◌≡◌, ℕ, ◌<◌, false, refl, ◌==◌}
use Rattle.std.proofs.Common.{arith, ne_eqb}
use Rattle.event.specs.declared.Placings.{Placings}
use Rattle.ledger.specs.Calls as Calls
use Rattle.ledger.specs.Calls.{number, applied, past, stored, done, rendered, refused}
use Rattle.sequencer.specs.declared.Sequencer.{Sequencer}
use Rattle.sequencer.specs.declared.Outcome.{Outcome}
use Rattle.sequencer.specs.Answers.{said, answer_of}

abbrev pub renders : Sequencer → Placings → Outcome
renders s c = record { sequencer = s; answer = said (rendered c) }

abbrev pub refuses : Sequencer → (number : ℕ) → Outcome
refuses s k = record { sequencer = s; answer = said (refused k) }

pub read_back : (a : Calls.Answer) → answer_of (said a) ≡ a
read_back (number k) = refl
read_back applied = refl
read_back past = refl
read_back stored = refl
read_back done = refl
read_back (rendered c) = refl
read_back (refused k) = refl

-- a call that has a refusal is not carried out
pub not_zero : (n : ℕ) → 0 < n → (n == 0) ≡ false
not_zero n h = ne_eqb n 0 (λ z. omega (arith, z))
