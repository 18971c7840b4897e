-- Document 02, Paper 9, of the engine: "each sample at which all contributions qualify equals that of the same call, lent the same, unmarked on the same engine", after any list of calls from any creation. Assumes nothing.
use Rattle.std.specs.Prelude.{ℕ, ◌^◌, ◌<◌, List}
use Rattle.event.specs.declared.ReplayMode.{ReplayMode}
use Rattle.ledger.specs.Calls.{Call}
use Rattle.ledger.specs.Claim.{ledger_after, AllLend}
use Rattle.sums.specs.Engines.{SameSamples}
use Rattle.sums.proofs.Engines.{same_samples_lem}
use Rattle.claim.specs.EngineCalls.{engine}
use Rattle.claim.specs.CarriedOut.{after}
use Rattle.claim.proofs.Theorem.{claim}

pub engine-same_samples : (channels : ℕ) (mode : ReplayMode) (first : ℕ) (cs : List Call) → first < 2 ^ 64 → AllLend engine.lends cs
    → SameSamples engine (after channels mode first cs) (ledger_after channels mode first cs).ledger
engine-same_samples channels mode first cs f h = same_samples_lem engine claim channels mode first cs f h
