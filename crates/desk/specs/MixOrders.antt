-- Document 02, Paper 9, of the desk: "events move and finish as without the mark." A marked tick or block of the back, refused or not, leaves the same desk,
-- both queues too, and has the same answer as the unmarked one.
use Rattle.std.specs.Prelude.{ℕ, ◌≡◌, refl, List, Float}
use Rattle.std.proofs.Math.Option.{Option, none, some}
use Rattle.event.specs.declared.MixOrder.{MixOrder}
use Rattle.event.specs.declared.MixOrder.TheVariants.{Forward}
use Rattle.ledger.specs.Refusals.{checks, refusal}
use Rattle.ledger.specs.Steps.{accept}
use Rattle.desk.specs.Desk.{tick, block, back, back_call, Desk, Outcome, acts, carried_out, desk_refusal, decide, step}

-- two calls leave the same and answer the same
abbrev pub Alike : (a b : Outcome) → Type 0
Alike a b = (a.desk ≡ b.desk) × (a.reply.answer ≡ b.reply.answer)

pub tick_as_unmarked : (d : Desk) (order : MixOrder) (pool out : List Float)
    → Alike (step d (back (tick order pool out))) (step d (back (tick Forward pool out)))
unfolding step desk_refusal refusal checks decide carried_out acts accept
tick_as_unmarked d order pool out = go (refusal d.back (back_call (tick Forward pool out)))
  where
    go : (o : Option ℕ) → Alike (decide o d (back (tick order pool out))) (decide o d (back (tick Forward pool out)))
    go (some k) = (refl, refl)
    go none = (refl, refl)

pub block_as_unmarked : (d : Desk) (order : MixOrder) (n : ℕ) (pool out : List Float)
    → Alike (step d (back (block order n pool out))) (step d (back (block Forward n pool out)))
unfolding step desk_refusal refusal checks decide carried_out acts accept
block_as_unmarked d order n pool out = go (refusal d.back (back_call (block Forward n pool out)))
  where
    go : (o : Option ℕ) → Alike (decide o d (back (block order n pool out))) (decide o d (back (block Forward n pool out)))
    go (some k) = (refl, refl)
    go none = (refl, refl)
