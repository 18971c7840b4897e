-- "reads no further": the result of a run, and of the whole call, depends on the bytes that it reads alone (Extent.antt). Assumes nothing.
use Prim.Native.Nat.{ℕ}
use Rattle.std.specs.Prelude.{Bool, ◌&&◌, ◌≡◌, List, leb}
use Rattle.std.proofs.Math.Bool.{true, cond}
use Rattle.std.proofs.Math.ListN.{take}
use Rattle.ledger.specs.Calls.{Call, Reply}
use Rattle.tape.specs.Tape.{gain_kind, push_kind}
use Rattle.batch.specs.Run.{push_run}
use Rattle.batch_claim.specs.Extent.{bytes_read}

-- ---- the length of a push

-- of a kind and its length
abbrev pub length_ok : ℕ → ℕ → Bool
length_ok k x = cond (push_kind k) (leb 43 x && cond (gain_kind k) (leb 47 x) true) true

module _ {S : Type 0} (call : S → Call → S × Reply) where
  abbrev pub Alone : ℕ → Type 0
  Alone n = (bs cs : List ℕ) (s : S) → take (bytes_read call n bs s) bs ≡ take (bytes_read call n bs s) cs → push_run call n bs s ≡ push_run call n cs s
