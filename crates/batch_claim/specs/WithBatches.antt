-- Demand 3 with document 02's Paper 1: what is claimed of a list of calls with runs of push records among them, from any creation on.
use Rattle.std.specs.Prelude.{ℕ, false, ◌≡◌}
use mathlib.Core.List.{List, map, flatten}
use Rattle.event.specs.declared.ReplayMode.{ReplayMode}
use Rattle.ledger.specs.Calls.{Call, Reply}
use Rattle.ledger.specs.Ledger.{Ledger, create}
use Rattle.ledger.specs.Steps.{step}
use Rattle.ledger.specs.LedgerMeets.{pair_of, engine_of}
use Rattle.ledger.specs.Claim.{accepted, Engine, engine_after, ledger_after, AllLend, ClaimAt}
use Rattle.sequencer.specs.declared.Sequencer.{Sequencer}
use Rattle.claim.specs.EngineCalls.{engine_new, engine}
use Rattle.claim.specs.CarriedOut.{after}
use Rattle.batch_claim.specs.Lists.{Item, ItemReply, items, flat, parts, numbers_of, all_numbers, SameItems}

-- the plain ledger as something that has calls
abbrev pub plain : Engine
plain = engine_of false (λ l c. pair_of (step l c))

module _ (channels : ℕ) (mode : ReplayMode) (first : ℕ) (is : List Item) where
  -- the single calls of a list, by the ledger, from a creation on
  abbrev pub single_calls : List Call
  single_calls = flat plain is (create channels mode first).ledger

  -- the engine and the ledger after a list with runs, and what the engine has replied to it
  abbrev pub engine_then : Sequencer
  engine_then = (items engine is (engine_new channels mode first).0).0

  abbrev pub ledger_then : Ledger
  ledger_then = (items plain is (create channels mode first).ledger).0

  abbrev pub replies_then : List ItemReply
  replies_then = (items engine is (engine_new channels mode first).0).1

  -- what the engine has replied to the single calls, and so item by item
  abbrev pub replies_to_singles : List Reply
  replies_to_singles = (engine_after engine channels mode first single_calls).replies

  abbrev pub replies_by_item : List (List Reply)
  replies_by_item = parts engine is (engine_new channels mode first).0

  pub record WithBatches : Type 0 where
    -- the engine after the list is the engine after the single calls
    pub state : engine_then ≡ after channels mode first single_calls
    -- and so is the ledger
    pub ledger : ledger_then ≡ (ledger_after channels mode first single_calls).ledger
    -- demand 3's claim holds of the single calls, which are lent what the engine asks for
    pub claimed : ClaimAt (engine_after engine channels mode first single_calls) (ledger_after channels mode first single_calls)
    pub lent : AllLend engine.lends single_calls
    -- what each call and each run of the list gives back, lent slices too, is the ledger's
    pub replies : SameItems replies_then (items plain is (create channels mode first).ledger).1
    -- "every number equal those of the single pushes": the numbers put into the slices, run after run, with those of the calls between the runs, are the
    -- numbers that the single calls are answered with
    pub numbers : all_numbers replies_then ≡ accepted replies_to_singles
    -- item by item too: the numbers in a run's slice are those that its own pushes are answered with
    pub slices : map numbers_of replies_then ≡ map accepted replies_by_item
    pub parted : flatten replies_by_item ≡ replies_to_singles
