-- A refused call changes nothing, on every engine value, reached or not: the engine comes back as it was, and so does all that was lent. Assumes nothing.
use Rattle.std.specs.Prelude.{◌≡◌}
use Rattle.ledger.specs.Calls.{Call, Reply}
use Rattle.ledger.specs.Refused.{lent_out}
use Rattle.sequencer.specs.declared.Sequencer.{Sequencer}

-- what a refused call gives back
abbrev pub Unchanged : Sequencer → Call → Sequencer × Reply → Type 0
Unchanged s c r = (r.0 ≡ s) × (r.1.out ≡ lent_out c)
