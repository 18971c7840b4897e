-- What the claim's sentence about a call that no refusal names says: the engine after a list of calls, what it shows, and what it does. Assumes nothing.
use Rattle.std.specs.Prelude.{ℕ, ◌^◌, ◌%◌, ◌≡◌, List}
use Rattle.event.specs.declared.ReplayMode.{ReplayMode}
use Rattle.ledger.specs.Calls.{Call}
use Rattle.ledger.specs.Ledger.{Ledger}
use Rattle.ledger.specs.Steps.{Outcome}
use Rattle.ledger.specs.Claim.{calls, SameState, SameReply, IndexGivesPlaces}
use Rattle.sequencer.specs.declared.Sequencer.{Sequencer}
use Rattle.claim.specs.View.{view_of}
use Rattle.claim.specs.EngineCalls.{engine_new, engine_call, engine}

-- the engine after a creation and a list of calls
abbrev pub after : (channels : ℕ) → ReplayMode → (first : ℕ) → List Call → Sequencer
after channels mode first cs = (calls engine cs (engine_new channels mode first).0).0

-- the state; its index; the next number
abbrev pub Shows : Sequencer → Ledger → Type 0
Shows s l = SameState (view_of s) l × IndexGivesPlaces (view_of s) × ((view_of s).next ≡ l.next % 2 ^ 64)

-- a call's reply and what it leaves are those of an outcome of the ledger
abbrev pub Does : Sequencer → Call → Outcome → Type 0
Does s c o = SameReply (engine_call s c).1 o.reply × Shows (engine_call s c).0 o.ledger
