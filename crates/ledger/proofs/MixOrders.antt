-- Document 02, Paper 9: "events move and finish as without the mark." A marked tick or block, refused or not, leaves the same ledger and has the same answer as the unmarked one. Assumes nothing.
use Rattle.std.specs.Prelude.{ℕ, ◌≡◌, refl, List, Float}
use Rattle.std.proofs.Math.Option.{Option, none, some}
use Rattle.event.specs.declared.MixOrder.{MixOrder}
use Rattle.event.specs.declared.MixOrder.TheVariants.{Forward}
use Rattle.ledger.specs.Calls.{tick, block}
use Rattle.ledger.specs.Ledger.{Ledger}
use Rattle.ledger.specs.Refusals.{checks, refusal}
use Rattle.ledger.specs.Steps.{accept, decide, step}
use Rattle.ledger.specs.MixOrders.{Alike}

pub tick_as_unmarked : (l : Ledger) (order : MixOrder) (pool out : List Float) → Alike l (tick order pool out) (tick Forward pool out)
unfolding step refusal checks decide accept
tick_as_unmarked l order pool out = go (refusal l (tick Forward pool out))
  where
    go : (o : Option ℕ) → let c = tick order pool out in let d = tick Forward pool out in
        ((decide o l c).ledger ≡ (decide o l d).ledger) × ((decide o l c).reply.answer ≡ (decide o l d).reply.answer)
    go (some k) = (refl, refl)
    go none = (refl, refl)

pub block_as_unmarked : (l : Ledger) (order : MixOrder) (n : ℕ) (pool out : List Float) (scratch : Option (List Float)) → Alike l (block order n pool out scratch) (block Forward n pool out scratch)
unfolding step refusal checks decide accept
block_as_unmarked l order n pool out scratch = go (refusal l (block Forward n pool out scratch))
  where
    go : (o : Option ℕ) → let c = block order n pool out scratch in let d = block Forward n pool out scratch in
        ((decide o l c).ledger ≡ (decide o l d).ledger) × ((decide o l c).reply.answer ≡ (decide o l d).reply.answer)
    go (some k) = (refl, refl)
    go none = (refl, refl)
