-- The claim can be met: the desk's ledger itself, taken as an engine, meets it. Assumes nothing.
use Rattle.std.specs.Prelude.{◌^◌, ◌%◌, ◌≡◌, refl}
use Rattle.std.proofs.Common.{subst}
use Rattle.ledger.specs.Ledger.{create}
use Rattle.ledger.specs.Claim.{SameState, IndexGivesPlaces}
use Rattle.ledger.specs.LedgerMeets.{view_with}
use Rattle.ledger.proofs.LedgerMeets.{same-state}
use Rattle.desk.specs.Desk.{Desk, next_number, opened, step}
use Rattle.desk.specs.Claim.{DeskView, DeskEngine, DeskClaim, sent_from}
use Rattle.desk.proofs.ClaimByRelation.{desk-claim_by_relation}
use Rattle.desk.specs.DeskMeets.{desk_view, desk_itself}

pub desk_meets : DeskClaim desk_itself
desk_meets =
    desk-claim_by_relation desk_itself (λ e d. e ≡ d)
    (λ channels mode first f. (refl, refl))
    (λ e d c w r. subst (λ m. ((step e c).desk ≡ (step m c).desk) × ((step e c).reply ≡ (step m c).reply)) r (refl, refl))
    (λ e d w r. subst
    (λ m. let v = desk_view e in
    SameState v.back m.back × IndexGivesPlaces v.back × (v.queued ≡ sent_from m.back.next m.queued) × (v.returned ≡ m.returned) × (v.back.next ≡ next_number m % 2 ^ 64))
    r (same-state (next_number e % 2 ^ 64) e.back, λ k. refl, refl, refl, refl))
