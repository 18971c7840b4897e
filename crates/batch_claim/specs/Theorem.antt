-- Demand 3 with document 02's Paper 1 (WithBatches.antt): after any list of calls with runs of push records among them the engine, every answer, every number
-- and every sample are the plain ledger's. It is demand 3's claim about the single calls that the list is; nothing here looks at what a call is.
-- Assumes nothing.
use Rattle.std.specs.Prelude.{◌≡◌, List}
use Rattle.ledger.specs.Calls.{Call, Reply}
use Rattle.ledger.specs.Ledger.{Ledger}
use Rattle.ledger.specs.Lawful.{Lawful}
use Rattle.sequencer.specs.declared.Sequencer.{Sequencer}
use Rattle.claim.specs.Related.{Related}
use Rattle.claim.specs.EngineCalls.{engine}
use Rattle.batch.specs.Run.{Pushed}
use Rattle.batch_claim.specs.Lists.{Item, items, flat, SameItems}
use Rattle.batch_claim.specs.WithBatches.{plain}

-- ---- one run

-- two runs of pushes end alike, on an engine and on the ledger
pub record Alike (s : Pushed Sequencer) (l : Pushed Ledger) : Type 0 where
  pub related : Related s.state l.state
  pub lawful : Lawful l.state
  pub numbers : s.numbers ≡ l.numbers
  pub ended : s.ended ≡ l.ended

abbrev pub ledger_call : Ledger → Call → Ledger × Reply
ledger_call = plain.call

pub record Follows (is : List Item) (s : Sequencer) (l : Ledger) : Type 0 where
  pub calls_same : flat engine is s ≡ flat plain is l
  pub replies-same : SameItems (items engine is s).1 (items plain is l).1
