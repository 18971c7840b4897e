-- Demand 3 of the live engine. After any list of calls on memory that nobody else writes, from any creation in any memory,
-- the engine that the memory holds is the plain ledger.
use Rattle.std.specs.Prelude.{ℕ, ◌≡◌, refl, Float}
use mathlib.Core.List.{List, [], ◌∷◌}
use Rattle.std.proofs.Common.{sym, ◌∙◌, subst}
use Rattle.std.proofs.Math.Path.{ap, ap₂}
use Rattle.event.specs.declared.ReplayMode.{ReplayMode}
use Rattle.ledger.specs.Calls as Calls
use Rattle.ledger.specs.Calls.{Call, Reply}
use Rattle.ledger.specs.Claim.{calls, EngineAfter, engine_after, ledger_after, ClaimAt, Claim}
use Rattle.sequencer.specs.declared.Answer.{Answer}
use Rattle.sequencer.specs.declared.Sequencer.{Sequencer}
use Rattle.sequencer.specs.Answers.{answer_of}
use Rattle.sequencer.specs.Creation.{created}
use Rattle.claim.specs.View.{view_of}
use Rattle.claim.specs.EngineCalls.{engine_call, engine}
use Rattle.claim.proofs.Theorem.{claim}
use Rattle.live_claim.specs.LiveCalls.{Arrays, holds, Live, Meets, replies, live_call, live_engine}

module _ (f : Live) (w : Meets f) where
  -- a call leaves the engine of crate sequencer's call, and gives back what that gives

  same-state : (a : Arrays) (c : Call) → holds (live_call f a c).0 ≡ (engine_call (holds a) c).0
  same-state a (Calls.push kind start end fade_in fade_out curve source gain) = (w.pushes kind start end curve fade_in fade_out source gain a).0
  same-state a (Calls.edit kind k end fade_out) = (w.edits kind (record { 0 = k }) end fade_out a).0
  same-state a (Calls.tick order pool out) = (w.ticked order pool out a).0
  same-state a (Calls.block order n pool out scratch) = (w.processed order n pool out a).0
  same-state a (Calls.rate r) = (w.rated r a).0
  same-state a Calls.reset = w.is-reset a

  same_reply : (a : Arrays) (c : Call) → (live_call f a c).1 ≡ (engine_call (holds a) c).1
  same_reply a (Calls.push kind start end fade_in fade_out curve source gain) =
      ap (λ (x : Answer). replies x [] a) (w.pushes kind start end curve fade_in fade_out source gain a).1
  same_reply a (Calls.edit kind k end fade_out) = ap (λ (x : Answer). replies x [] a) (w.edits kind (record { 0 = k }) end fade_out a).1
  same_reply a (Calls.tick order pool out) = let h = w.ticked order pool out a in ap₂ (λ (x : Answer) (o : List Float). replies x o a) h.2 h.1
  same_reply a (Calls.block order n pool out scratch) = let h = w.processed order n pool out a in ap₂ (λ (x : Answer) (o : List Float). replies x o a) h.2
      h.1
  same_reply a (Calls.rate r) = ap (λ (x : Answer). replies x [] a) (w.rated r a).1
  same_reply a Calls.reset = refl

  module _ (m : Arrays) where
    -- so does any list of calls
    same-calls : (cs : List Call) (a : Arrays) (s : Sequencer) → holds a ≡ s
        → (holds (calls (live_engine f m) cs a).0 ≡ (calls engine cs s).0) × ((calls (live_engine f m) cs a).1 ≡ (calls engine cs s).1)
    unfolding calls
    same-calls [] a s h = (h, refl)
    same-calls (c ∷ cs) a s h =
        let r = same-calls cs (live_call f a c).0 (engine_call s c).0 (same-state a c ∙ ap (λ (x : Sequencer). (engine_call x c).0) h) in
        (r.0, ap₂ (λ (x : Reply) (y : List Reply). x ∷ y) (same_reply a c ∙ ap (λ (x : Sequencer). (engine_call x c).1) h) r.1)

    same_after : (channels : ℕ) (mode : ReplayMode) (first : ℕ) (cs : List Call) → engine_after (live_engine f m) channels mode first cs
        ≡ engine_after engine channels mode first cs
    same_after channels mode first cs =
        let e = w.creates channels mode first m in
        let r = same-calls cs (f.create channels mode first m).arrays (created channels mode first).sequencer e.0 in
        λ d. record { created = ap answer_of e.1 d; view = ap view_of r.0 d; replies = r.1 d }

    pub live_claim : Claim (live_engine f m)
    live_claim channels mode first cs h l =
        subst (λ (e : EngineAfter). ClaimAt e (ledger_after channels mode first cs)) (sym (same_after channels mode first cs)) (claim channels mode first cs h l)
