-- Document 02, Paper 9, of every engine that meets demand 3: "each sample at which all contributions qualify equals that of the same call, lent the same, unmarked on the same engine". Assumes nothing.
use Rattle.std.specs.Prelude.{ℕ, ◌+◌, ◌*◌, ◌<◌, ◌≡◌, Float, get_or}
use mathlib.Core.List.{List}
use Rattle.std.proofs.Math.Option.{Option}
use Rattle.floats.specs.Arithmetic.{zeroᶠ}
use Rattle.event.specs.declared.MixOrder.{MixOrder}
use Rattle.event.specs.declared.MixOrder.TheVariants.{Forward}
use Rattle.ledger.specs.Calls.{tick, block}
use Rattle.ledger.specs.Claim.{Engine, is_lent}
use Rattle.ledger.specs.Ledger.{Ledger}
use Rattle.ledger.specs.Refusals.{tick_end, block_end}
use Rattle.ledger.specs.Steps.{advance, span_of}
use Rattle.sums.specs.Contributions.{All, TickQualifies, BlockQualifies}

-- an engine in the state s, and the ledger after the same calls
pub record SameSamples (E : Engine) (s : E.State) (l : Ledger) : Type 0 where
  pub tick_samples : (o : MixOrder) (pool out : List Float) → All (TickQualifies pool l.clock) (advance l (tick_end l)).sounding
      → (E.call s (tick o pool out)).1.out ≡ (E.call s (tick Forward pool out)).1.out
  pub block_samples : (o : MixOrder) (n : ℕ) (pool out : List Float) (scratch : Option (List Float)) (c k : ℕ) → is_lent scratch ≡ E.lends → c < l.channels → k < n
      → All (BlockQualifies pool (span_of l n) k) (advance l (block_end l n)).sounding
      → get_or (E.call s (block o n pool out scratch)).1.out (64 * c + k) zeroᶠ ≡ get_or (E.call s (block Forward n pool out scratch)).1.out (64 * c + k) zeroᶠ
