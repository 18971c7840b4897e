-- Document 02, Paper 9: "events move and finish as without the mark." A marked tick or block, refused or not, leaves the same ledger and has the same answer as the unmarked one. Assumes nothing.
use Rattle.std.specs.Prelude.{◌≡◌}
use Rattle.ledger.specs.Calls.{Call}
use Rattle.ledger.specs.Ledger.{Ledger}
use Rattle.ledger.specs.Steps.{step}

-- the calls c and d leave the same and answer the same
abbrev pub Alike : Ledger → (c d : Call) → Type 0
Alike l c d = ((step l c).ledger ≡ (step l d).ledger) × ((step l c).reply.answer ≡ (step l d).reply.answer)
