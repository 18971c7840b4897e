-- The desk's refusals are the desk ledger's: of the front's calls with what is queued, then 13. Assumes nothing.
use Prim.Native.Nat.{ℕ}
use Rattle.std.specs.Prelude.{◌≡◌, Bool, cond}
use Rattle.desk.specs.Desk.{Call, Reply, refused, Outcome, lent_out}
use Rattle.realseq.specs.declared.SequencerBackend.{SequencerBackend}
use Rattle.desk_claim.specs.Related.{DeskRelated}

-- ---- a call is refused by both with one number, or carried out by both

abbrev pub Keeps : SequencerBackend × Reply → Outcome → Type 0
Keeps a o = DeskRelated a.0 o.desk × (a.1 ≡ o.reply)

abbrev pub refused_reply : ℕ → Call → Reply
refused_reply k c = record { answer = refused k; out = lent_out c }

-- ---- the engine's tests, one after another

abbrev pub of_push : (a b c g h n : Bool) → ℕ
of_push a b c g h n = cond a 3 (cond b 4 (cond c 5 (cond g 18 (cond h 6 (cond n 7 0)))))
