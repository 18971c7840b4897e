-- Document 02, Paper 9, of the desk, whose back takes the mark: "each sample at which all contributions qualify equals that of the same call,
-- lent the same, unmarked on the same engine".
use Rattle.std.specs.Prelude.{ℕ, ◌+◌, ◌*◌, ◌<◌, ◌≡◌, List, Float, get_or}
use Rattle.floats.specs.Arithmetic.{zeroᶠ}
use Rattle.event.specs.declared.MixOrder.{MixOrder}
use Rattle.event.specs.declared.MixOrder.TheVariants.{Forward}
use Rattle.ledger.specs.Refusals.{tick_end, block_end}
use Rattle.ledger.specs.Steps.{advance, span_of}
use Rattle.sums.specs.Contributions.{All, TickQualifies, BlockQualifies}
use Rattle.desk.specs.Desk.{tick, block, back, Desk, drained}
use Rattle.desk.specs.Claim.{DeskEngine}

-- All contributions of a tick qualify, and all of a block at place k. A back call drains the messages first: they are those of the ledger after draining.
abbrev pub TickAllQualify : Desk → (pool : List Float) → Type 0
TickAllQualify d pool = let l = (drained d).back in All (TickQualifies pool l.clock) (advance l (tick_end l)).sounding

abbrev pub BlockAllQualify : Desk → (pool : List Float) → (n k : ℕ) → Type 0
BlockAllQualify d pool n k = let l = (drained d).back in All (BlockQualifies pool (span_of l n) k) (advance l (block_end l n)).sounding

-- A desk in the state s, and the desk ledger d after the same calls. A refused call counts too: it gives back what was lent.
-- The sample at place k of channel c of a block is the output's at 64 × c + k.
pub record SameDeskSamples (E : DeskEngine) (s : E.State) (d : Desk) : Type 0 where
  -- a tick has one sample, which every channel gets
  pub tick_samples : (o : MixOrder) (pool out : List Float) → TickAllQualify d pool
      → (E.call s (back (tick o pool out))).1.out ≡ (E.call s (back (tick Forward pool out))).1.out
  pub block_samples : (o : MixOrder) (n : ℕ) (pool out : List Float) (c k : ℕ) → c < d.back.channels → k < n → BlockAllQualify d pool n k
      → get_or (E.call s (back (block o n pool out))).1.out (64 * c + k) zeroᶠ ≡ get_or (E.call s (back (block Forward n pool out))).1.out (64 * c + k) zeroᶠ
