-- The laws of the desk: handling a message keeps them, and so does draining the queue (that every call does: `proofs.LawfulCalls`). So no queued message is refused when it is handled, and no back call is refused after draining that was not before. Assumes nothing.
use Rattle.std.specs.Prelude.{ℕ, ◌+◌, ◌^◌, ◌≤◌, ◌≡◌, not, ◌&&◌, ◌||◌, List, [], ◌∷◌, ◌⊎◌, T, length}
use Rattle.std.specs.Float.Ieee.Scale.{finite}
use Rattle.floats.specs.Arithmetic.{◌-ᵈ◌, ◌÷ᵈ◌, ◌<ᶠ◌, ◌≤ᶠ◌, zeroᶠ, oneᶠ, whole}
use Rattle.ledger.specs.Calls as Calls
use Rattle.ledger.specs.Ledger.{Ledger, held}
use Rattle.ledger.specs.Refusals.{Check, refuses, within, within_end, finite_source, stated_end}
use Rattle.ledger.specs.Steps.{accept}
use Rattle.ledger.specs.Refused.{AllPass}
use Rattle.ledger.specs.Lawful.{Lawful}
use Rattle.desk.specs.Desk.{Message, push, edit, reset, Desk, pushes_in, edits_in, next_number}

-- ---- what a queued message has passed: a push 3 to 5 and 18, an edit 8

abbrev pub own_checks : Message → List Check
own_checks (push kind start end fade_in fade_out curve source gain) =
    let lasts = stated_end kind start end -ᵈ start in
    refuses 3 (not (within start && within_end end && within fade_in && within fade_out))
    ∷ refuses 4 (lasts <ᶠ fade_in || lasts <ᶠ fade_out)
    ∷ refuses 5 (not (finite_source source))
    ∷ refuses 18 (not (finite gain)) ∷ []
own_checks (edit kind k end fade_out) = refuses 8 (not (within_end end && within fade_out)) ∷ []
own_checks reset = []

abbrev pub Passed : List Message → Type 0
Passed [] = Unit {0}
Passed (m ∷ q) = AllPass (own_checks m) × Passed q

-- ---- the laws

pub record DeskLawful (d : Desk) : Type 0 where
  pub lawful : Lawful d.back
  -- the limits, with what is queued
  pub events : held d.back + pushes_in d.queued ≤ 256
  pub edits : length d.back.edits + edits_in d.queued ≤ 256
  pub next : next_number d ≤ 2 ^ 64
  -- the queues
  pub messages : length d.queued ≤ 64
  pub returns : length d.returned ≤ 64
  pub passed : Passed d.queued
  -- d = 1 / r, for a rate from 1 to 1,000,000
  pub duration : d.back.duration ≡ oneᶠ ÷ᵈ d.back.rate
  pub slowest : T (oneᶠ ≤ᶠ d.back.rate)
  pub fastest : T (d.back.rate ≤ᶠ whole 1_000_000)

abbrev pub desk_of : Ledger → List Message → List ℕ → Desk
desk_of l q r = record { back = l; queued = q; returned = r }

-- the back once a message is handled; a reset acts only when those behind it are handled
abbrev pub handled : Ledger → Message → Ledger
handled l (push kind start end fade_in fade_out curve source gain) = (accept l (Calls.push kind start end fade_in fade_out curve source gain)).ledger
handled l (edit kind k end fade_out) = (accept l (Calls.edit kind k end fade_out)).ledger
handled l reset = l

-- ---- what handling keeps

pub record Kept (l m : Ledger) : Type 0 where
  pub channels : m.channels ≡ l.channels
  pub mode : m.mode ≡ l.mode
  pub rate : m.rate ≡ l.rate
  pub duration : m.duration ≡ l.duration
  pub clock : (m.clock ≡ l.clock) ⊎ (m.clock ≡ zeroᶠ)
