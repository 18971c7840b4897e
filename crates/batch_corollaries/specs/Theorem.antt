-- What is proved after every list of calls holds after every list with runs of push records (document 02, Paper 1), by `with_runs`. Assumes nothing.
use Rattle.std.specs.Prelude.{ℕ, ◌^◌, ◌<◌, List}
use Rattle.event.specs.declared.ReplayMode.{ReplayMode}
use Rattle.sums.specs.Engines.{SameSamples}
use Rattle.claim.specs.EngineCalls.{engine}
use Rattle.order_claim.specs.Theorem.{engine-same_samples}
use Rattle.overlap.specs.Claim.{Same}
use Rattle.overlap.proofs.Theorem as overlap
use Rattle.rises.specs.Totals.{Push}
use Rattle.rises.specs.Reached as rises
use Rattle.rises.proofs.Reached as rises_proofs
use Rattle.standing.specs.Theorem.{Drawn}
use Rattle.standing.proofs.Theorem.{drawn}
use Rattle.batch_claim.specs.Lists.{Item, all_numbers, ItemsLend}
use Rattle.batch_claim.specs.WithBatches.{engine_then, ledger_then, replies_then}
use Rattle.batch_claim.proofs.Theorem.{with_runs}

module _ (channels : ℕ) (mode : ReplayMode) (first : ℕ) (f : first < 2 ^ 64) (is : List Item) (lent : ItemsLend engine.lends is) where
  -- Paper 4: the clips of a stretch and the first waiting event are the ledger's
  pub overlap_reached : Same (engine_then channels mode first is) (ledger_then channels mode first is)
  overlap_reached = with_runs (λ s l ns. Same s l) channels mode first f (λ cs h. overlap.reached channels mode first cs f h) is lent

  -- Paper 13: a push says how many levels its event rose
  pub rises-reached : (p : Push) → rises.Says (engine_then channels mode first is) p
  rises-reached = with_runs (λ s l ns. (p : Push) → rises.Says s p) channels mode first f (λ cs h. rises_proofs.reached channels mode first cs f h) is lent

  -- Paper 9: a marked call gives the samples of the unmarked one where all contributions qualify
  pub order_same_samples : SameSamples engine (engine_then channels mode first is) (ledger_then channels mode first is)
  order_same_samples = with_runs (λ s l ns. SameSamples engine s l) channels mode first f (λ cs h. engine-same_samples channels mode first cs f h) is lent

  -- the pages: a number's standing is the ledger's; those handed out, in slices too, are in exactly one list
  pub standing-drawn : Drawn (engine_then channels mode first is) (ledger_then channels mode first is) (all_numbers (replies_then channels mode first is))
  standing-drawn = with_runs Drawn channels mode first f (λ cs h. drawn channels mode first cs f h) is lent
