-- Document 02, Paper 9, of every engine that meets demand 3: "each sample at which all contributions qualify equals that of the same call, lent the same, unmarked on the same engine". Assumes nothing.
use Rattle.std.specs.Prelude.{ℕ, ◌+◌, ◌*◌, ◌^◌, ◌<◌, ◌≡◌, Bool, Float, get_or}
use Rattle.std.proofs.Common.{sym, ap, ◌∙◌, arith}
use mathlib.Core.List.{List, [], ◌∷◌, ◌++◌}
use Rattle.floats.specs.Arithmetic.{zeroᶠ}
use Rattle.event.specs.declared.MixOrder.TheVariants.{Forward}
use Rattle.event.specs.declared.ReplayMode.{ReplayMode}
use Rattle.ledger.specs.Calls.{Call, tick, block}
use Rattle.ledger.specs.Claim.{Engine, calls, ledger_after, SameReply, SameReplies, Lends, AllLend, Claim}
use Rattle.ledger.specs.Ledger.{Ledger, create}
use Rattle.ledger.specs.Steps.{step, run}
use Rattle.sums.proofs.Marked.{reached}
use Rattle.sums.specs.Engines.{SameSamples}

one_more : (b : Bool) (cs : List Call) (c : Call) → AllLend b cs → Lends b c → AllLend b (cs ++ (c ∷ []))
one_more b [] c h k = (k, tt)
one_more b (d ∷ cs) c h k = (h.0, one_more b cs c h.1 k)

module _ (E : Engine) where
  -- the reply to the last call of a list
  last_reply_lem : (cs : List Call) (s : E.State) (l : Ledger) (c : Call) → SameReplies (calls E (cs ++ (c ∷ [])) s).1 (run (cs ++ (c ∷ [])) l).replies
      → SameReply (E.call (calls E cs s).0 c).1 (step (run cs l).ledger c).reply
  unfolding calls run
  last_reply_lem [] s l c h = h.0
  last_reply_lem (d ∷ cs) s l c h = last_reply_lem cs (E.call s d).0 (step l d).ledger c h.1

  module _ (claim : Claim E) (channels : ℕ) (mode : ReplayMode) (first : ℕ) (cs : List Call) (f : first < 2 ^ 64) (h : AllLend E.lends cs) where
    abbrev start : E.State
    start = (E.new channels mode first).0

    abbrev l : Ledger
    l = (ledger_after channels mode first cs).ledger

    out_is : (c : Call) → Lends E.lends c → (E.call (calls E cs start).0 c).1.out ≡ (step l c).reply.out
    out_is c k = (last_reply_lem cs start (create channels mode first).ledger c (claim channels mode first (cs ++ (c ∷ [])) f (one_more E.lends cs c h k)).replies).out

    pub same_samples_lem : SameSamples E (calls E cs (E.new channels mode first).0).0 (ledger_after channels mode first cs).ledger
    same_samples_lem =
        let w = reached channels mode first cs (omega arith) in
        record {
          tick_samples = λ o pool out q. out_is (tick o pool out) tt ∙ w.tick_samples o pool out q ∙ sym (out_is (tick Forward pool out) tt);
          block_samples = λ o n pool out scratch c k e i j q.
              let at : List Float → Float = λ (r : List Float). get_or r (64 * c + k) zeroᶠ in
              ap at (out_is (block o n pool out scratch) e) ∙ w.block_samples o n pool out scratch c k i j q ∙ ap at (sym (out_is (block Forward n pool out scratch) e));
        }
