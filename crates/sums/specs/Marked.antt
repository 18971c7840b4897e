-- Document 02, Paper 9: "each sample at which all contributions qualify equals that of the same call, lent the same, unmarked on the same engine". On every ledger that holds at most 256 events, so on every one that a list of calls reaches. Assumes nothing.
use Rattle.std.specs.Prelude.{ℕ, ◌+◌, ◌*◌, ◌<◌, ◌≡◌, Float, get_or}
use mathlib.Core.List.{List}
use Rattle.std.proofs.Math.Option.{Option}
use Rattle.floats.specs.Arithmetic.{zeroᶠ}
use Rattle.event.specs.declared.MixOrder.{MixOrder}
use Rattle.event.specs.declared.MixOrder.TheVariants.{Forward}
use Rattle.ledger.specs.Calls.{tick, block}
use Rattle.ledger.specs.Ledger.{Ledger}
use Rattle.ledger.specs.Refusals.{tick_end, block_end}
use Rattle.ledger.specs.Steps.{advance, span_of, step}
use Rattle.sums.specs.Contributions.{All, TickQualifies, BlockQualifies}

-- The samples of a marked tick or block beside those of the unmarked one; ledger and answer are the same anyway (`tick_as_unmarked`, `block_as_unmarked`). The sample at place k of channel c of a block is the output's at 64 × c + k.
pub record WithoutConsequence (l : Ledger) : Type 0 where
  -- a tick has one sample, which every channel gets
  pub tick_samples : (o : MixOrder) (pool out : List Float) → All (TickQualifies pool l.clock) (advance l (tick_end l)).sounding
      → (step l (tick o pool out)).reply.out ≡ (step l (tick Forward pool out)).reply.out
  pub block_samples : (o : MixOrder) (n : ℕ) (pool out : List Float) (scratch : Option (List Float)) (c k : ℕ) → c < l.channels → k < n
      → All (BlockQualifies pool (span_of l n) k) (advance l (block_end l n)).sounding
      → get_or (step l (block o n pool out scratch)).reply.out (64 * c + k) zeroᶠ ≡ get_or (step l (block Forward n pool out scratch)).reply.out (64 * c + k) zeroᶠ
