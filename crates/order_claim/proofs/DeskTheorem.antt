-- Document 02, Paper 9, of our desk: "each sample at which all contributions qualify equals that of the same call, lent the same, unmarked on the same engine",
-- after any list of front and back calls from any creation.
use Rattle.std.specs.Prelude.{ℕ, ◌^◌, ◌<◌, List}
use Rattle.event.specs.declared.ReplayMode.{ReplayMode}
use Rattle.desk.specs.Claim.{desk_after}
use Rattle.desk.specs.Desk.{Call}
use Rattle.desk_claim.specs.EngineCalls.{desk_engine}
use Rattle.desk_claim.specs.CarriedOut.{after}
use Rattle.desk_claim.proofs.Theorem.{desk-claim}
use Rattle.order_claim.specs.DeskOrder.{SameDeskSamples}
use Rattle.order_claim.proofs.DeskOrderProof.{same-desk_samples}

pub desk-same_samples : (channels : ℕ) (mode : ReplayMode) (first : ℕ) (cs : List Call) → first < 2 ^ 64
    → SameDeskSamples desk_engine (after channels mode first cs) (desk_after channels mode first cs).desk
desk-same_samples channels mode first cs f = same-desk_samples desk_engine desk-claim channels mode first cs f
