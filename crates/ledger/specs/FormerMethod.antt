-- Document 02, Paper 7: "The samples, source places and lists of every block equal those of the former method." The former method as it was, and the theorem, for any number of channels, any events and any lent outputs. Assumes nothing.
use Prim.Native.Nat.{ℕ, zero, suc, ◌*◌}
use Rattle.std.specs.Prelude.{cond, ltb, length, take}
use mathlib.Core.List.{List, [], ◌∷◌, ◌++◌, map}
use Rattle.std.proofs.Math.Option.{Option, none, some}
use Rattle.std.specs.Float.Ieee.{Float}
use Rattle.std.proofs.Math.ListN.{drop}
use Rattle.event.specs.declared.Event.{Event}
use Rattle.event.specs.declared.MixOrder.{MixOrder}
use Rattle.ledger.specs.BlockSamples.{Span, end_place, first_place, faded_run, channel_after, after_block}
use Rattle.ledger.specs.Ledger.{Ledger}
use Rattle.ledger.specs.Refusals.{block_end}
use Rattle.ledger.specs.Steps.{advance, in_order, span_of, with_sounding, cleared}

-- ---- the former method: 64 scratch samples for every channel, and every channel filled, faded and added by itself

-- what is done to each of c channels of a lent list, 64 samples each
unfoldable pub every_channel : (List Float → List Float) → (c : ℕ) → List Float → List Float
every_channel f zero l = l
every_channel f (suc c) l = f (take 64 l) ++ every_channel f c (drop 64 l)

-- the channel's first 8 × ceil(n/8) places become +0.0, the rest remains; then each event's faded run is added to it, in the list's order
abbrev pub mixed : (pool : List Float) → Span → List Event → (channel : List Float) → List Float
mixed pool b [] channel = channel
mixed pool b (e ∷ l) channel = mixed pool b l (channel_after pool b e channel)

abbrev pub cleared_first : (n : ℕ) → (channel : List Float) → List Float
cleared_first n channel = cleared n ++ drop (length (cleared n)) channel

-- the channel's scratch gets each faded run, from place 0 on
abbrev pub written : (run scratch : List Float) → List Float
written run scratch = run ++ drop (length run) scratch

abbrev pub filled : (pool : List Float) → Span → List Event → (scratch : List Float) → List Float
filled pool b [] scratch = scratch
filled pool b (e ∷ l) scratch =
    let s = first_place b e in
    let z = end_place b e in
    filled pool b l (cond (ltb s z) (written (faded_run pool b s z e) scratch) scratch)

-- a block, marked or not: the lists move as ever, the sources move on once
pub record Former : Type 0 where
  pub ledger : Ledger
  pub out : List Float
  pub scratch : List Float

unfoldable pub former_block : Ledger → MixOrder → (n : ℕ) → (pool out scratch : List Float) → Former
former_block l order n pool out scratch =
    let m = advance l (block_end l n) in
    let b = span_of l n in
    let s = in_order order m.sounding in
    record {
      ledger = with_sounding m (map (after_block b) m.sounding);
      out = every_channel (λ channel. mixed pool b s (cleared_first n channel)) l.channels out;
      scratch = every_channel (filled pool b s) l.channels scratch;
    }

-- channel c of a list of channels, 64 samples each
abbrev pub channel_of : (c : ℕ) → List Float → List Float
channel_of c l = take 64 (drop (64 * c) l)

-- the first k of a lent scratch
abbrev pub take_lent : (k : ℕ) → Option (List Float) → Option (List Float)
take_lent k none = none
take_lent k (some l) = some (take k l)
