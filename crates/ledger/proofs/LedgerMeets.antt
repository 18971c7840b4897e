-- The claim can be met: the ledger itself, taken as an engine, meets it, with and without a scratch. Assumes nothing.
use Rattle.std.specs.Prelude.{ℕ, ◌^◌, ◌%◌, ◌≡◌, refl, Bool, List, Float}
use Rattle.std.proofs.Common.{ap, subst}
use mathlib.Core.List.Perm
use Rattle.std.proofs.Math.Option.{Option, none, some}
use Rattle.ledger.specs.Calls.{Reply}
use Rattle.ledger.specs.Ledger.{Ledger}
use Rattle.ledger.specs.Steps.{step}
use Rattle.ledger.specs.Claim.{SameState, SameReply, SameScratch, Claim}
use Rattle.ledger.proofs.ClaimByRelation.{claim_by_relation}
use Rattle.ledger.specs.LedgerMeets.{view_with, view_of, pair_of, engine_of}

pub same-state : (n : ℕ) (l : Ledger) → SameState (view_with n l) l
same-state n l = record {
  heap = Perm.refl l.waiting;
  sounding = refl;
  finished = refl;
  counts = refl;
  clock = refl;
  threshold = refl;
  edits = refl;
  rate = refl;
  duration = refl;
  channels = refl;
  mode = refl;
}

same-scratch : (k : ℕ) (s : Option (List Float)) → SameScratch k s s
same-scratch k none = tt
same-scratch k (some l) = (refl, λ j h. refl)

pub same_reply : (r : Reply) → SameReply r r
same_reply r = record { answer = refl; out = refl; scratch = same-scratch r.filled r.scratch }

pub ledger_meets : (b : Bool) → Claim (engine_of b (λ l c. pair_of (step l c)))
ledger_meets b =
    claim_by_relation (engine_of b (λ l c. pair_of (step l c))) (λ e l. e ≡ l)
    (λ channels mode first f. (refl, refl))
    (λ e l c h w r. subst (λ m. ((step e c).ledger ≡ (step m c).ledger) × SameReply (step e c).reply (step m c).reply) r (refl, same_reply (step e c).reply))
    (λ e l w r. (subst (λ m. SameState (view_of e) m) r (same-state (e.next % 2 ^ 64) e), (λ k. refl), ap (λ (m : Ledger). m.next % 2 ^ 64) r))
