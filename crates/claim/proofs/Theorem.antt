-- Demand 3. After any list of calls from any creation, the engine is the plain ledger: one claim, whose sentences are those of `ClaimAt`. And a call that no refusal of document 01 names is carried out: what it gives back and leaves is the ledger's `accept`. Assumes nothing.
use Rattle.std.specs.Prelude.{ℕ, ◌^◌, ◌<◌, ◌≡◌, List}
use Rattle.std.proofs.Common.{subst}
use Rattle.std.proofs.Math.Option.{Option, none}
use Rattle.event.specs.declared.ReplayMode.{ReplayMode}
use Rattle.ledger.specs.Calls.{Call}
use Rattle.ledger.specs.Ledger.{create}
use Rattle.ledger.specs.Refusals.{refusal}
use Rattle.ledger.specs.Steps.{accept, decide, step}
use Rattle.ledger.specs.Claim.{ledger_after, Lends, AllLend, Claim}
use Rattle.ledger.proofs.Lawful.{step_lawful}
use Rattle.ledger.proofs.ClaimByRelation.{claim_by_relation, reached}
use Rattle.claim.specs.Related.{Related}
use Rattle.claim.specs.Creating.{related_creation}
use Rattle.claim.specs.Shows.{shows}
use Rattle.claim.specs.EngineCalls.{engine_new, engine_call, engine}
use Rattle.claim.specs.CarriedOut.{after, Does}
use Rattle.claim.proofs.Steps.{keep}

start : (channels : ℕ) (mode : ReplayMode) (first : ℕ) → first < 2 ^ 64
    → ((engine_new channels mode first).1 ≡ (create channels mode first).answer) × Related (engine_new channels mode first).0 (create channels mode first).ledger
start channels mode first f =
    let r = related_creation channels mode first f in
    (r.1, r.0)

pub claim : Claim engine
claim = claim_by_relation engine Related start keep shows

-- ---- a call that no refusal names is carried out, after any list of calls

pub carried_out_lem : (channels : ℕ) (mode : ReplayMode) (first : ℕ) (cs : List Call) (c : Call) → first < 2 ^ 64 → AllLend engine.lends cs → Lends engine.lends c
    → (let l = (ledger_after channels mode first cs).ledger in refusal l c ≡ none → Does (after channels mode first cs) c (accept l c))
unfolding step decide
carried_out_lem channels mode first cs c f h k free =
    let l = (ledger_after channels mode first cs).ledger in
    let s = after channels mode first cs in
    let at = reached engine Related start keep shows channels mode first cs f h in
    let kept = keep s l c k at.1 at.0 in
    let view = shows (engine_call s c).0 (step l c).ledger (step_lawful l c at.1) kept.0 in
    subst (λ (o : Option ℕ). Does s c (decide o l c)) free (kept.1, view)
