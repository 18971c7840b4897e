-- What the code keeps of a ledger, how it agrees with what a record does there, and the run that a block sounds. That every record agrees is `plays` of proofs/Plays. Assumes nothing.
use Rattle.std.specs.Prelude.{◌≡◌, ℕ, ◌+◌, ◌*◌, ◌/◌, List, [], length, ◌==◌, Float}
use Rattle.std.proofs.Math.Path.{sym}
use Rattle.std.proofs.Common.{ap, ◌∙◌}
use Rattle.std.proofs.lemmas.List.{length-replicate}
use Rattle.event.specs.declared.Event.{Event}
use Rattle.floats.specs.Arithmetic.{zeroᶠ}
use Rattle.ledger.specs.BlockSamples.{block_sum}
use Rattle.ledger.specs.Ledger.{Ledger}
use Rattle.ledger.specs.Refusals.{block_end}
use Rattle.ledger.specs.Steps.{advance, span_of, cleared}
use Rattle.claim.specs.SamplesAgree.{block_channel, length_channel}
use Rattle.tape.specs.declared.reader.Call.{Call}
use Rattle.record_output.specs.Bytes.{bytes_of}
use Rattle.tape_extent.specs.declared.Pace.{Pace}
use Rattle.tape_extent.specs.declared.Paced.{Paced}
use Rattle.tape_extent.specs.Playing.{Played}
use Rattle.tape_extent.specs.Extents.{frames_of}

-- what the code keeps of a ledger
abbrev pub pace_of : Ledger → Pace
pace_of l = record { time = l.clock; rate = l.rate; duration = l.duration; channels = l.channels }

-- what a record does on the ledger, and what the code says of it
pub record Agrees (call : Call) (p : Played) (q : Paced) : Type 0 where
  pub pace : q.pace ≡ pace_of p.ledger
  pub refused : q.refused ≡ (p.refusal == 1)
  pub frames : q.frames ≡ frames_of call p
  pub bytes : 4 * (q.pace.channels * q.frames) ≡ length (bytes_of p.samples)

-- ---- a block

-- the run that a block of n sounds in each channel
unfoldable pub summed : Ledger → (n : ℕ) → (pool : List Float) → List Float
summed l n pool = (block_sum pool (span_of l n) (advance l (block_end l n)).sounding (cleared n) []).channel

pub length-summed : (l : Ledger) (n : ℕ) (pool : List Float) → length (summed l n pool) ≡ 8 * ((n + 7) / 8)
unfolding summed
length-summed l n pool =
    let e : List Event = (advance l (block_end l n)).sounding in
    ap length (sym (block_channel pool (span_of l n) e (cleared n) [])) ∙ length_channel pool (span_of l n) e (cleared n) ∙ length-replicate (8 * ((n + 7) / 8)) zeroᶠ
