-- A tape's records on the plain ledger: what each does to it, and which samples are heard. No engine stands here. Assumes nothing.
use Rattle.std.specs.Prelude.{ℕ, ◌*◌, cond, List, [], replicate, ◌==◌, Float}
use Rattle.std.proofs.Math.Option.{none}
use Rattle.event.specs.declared.MixOrder.TheVariants.{Forward}
use Rattle.floats.specs.Arithmetic.{zeroᶠ}
use Rattle.ledger.specs.Calls.{absolute, relative, by_duration, absolute_end, relative_end, tick, block, rate, reset}
use Rattle.ledger.specs.Ledger.{Ledger, create}
use Rattle.ledger.specs.Steps.{Outcome, step}
use Rattle.tape.specs.declared.reader.Call.{Call}
use Rattle.tape.specs.declared.reader.Call.TheVariants.{Create, Push, PushRelative, PushDuration, Edit, EditRelative, Tick, Process, Reset, SetSampleRate}
use Rattle.apply.specs.RecordCalls.{refusal_of, push_call, edit_call}
use Rattle.record_output.specs.Bytes.{channels_of}

-- the ledger after a record, the refusal or 0, and the samples of an accepted tick or block, channel after channel
pub record Played : Type 0 where
  pub ledger : Ledger
  pub refusal : ℕ
  pub samples : List Float

-- a record without samples
abbrev pub silent : Outcome → Played
silent o = record { ledger = o.ledger; refusal = refusal_of o.reply.answer; samples = [] }

unfoldable pub heard : (c n w : ℕ) → Outcome → Played
unfolding channels_of
heard c n w o =
    let no = refusal_of o.reply.answer in
    record { ledger = o.ledger; refusal = no; samples = cond (no == 0) (channels_of c n w o.reply.out) [] }

-- A tick or block is lent the pool and an output of the length that it wants.
unfoldable pub play : (pool : List Float) → Ledger → Call → Played
unfolding create step heard
play pool l (Create channels mode first) =
    let o = create channels mode first in
    record { ledger = o.ledger; refusal = refusal_of o.answer; samples = [] }
play pool l (Push p) = silent (step l (push_call absolute p))
play pool l (PushRelative p) = silent (step l (push_call relative p))
play pool l (PushDuration p) = silent (step l (push_call by_duration p))
play pool l (Edit p) = silent (step l (edit_call absolute_end p))
play pool l (EditRelative p) = silent (step l (edit_call relative_end p))
play pool l Tick = heard l.channels 1 1 (step l (tick Forward pool (replicate l.channels zeroᶠ)))
play pool l (Process n) = heard l.channels n 64 (step l (block Forward n pool (replicate (64 * l.channels) zeroᶠ) none))
play pool l Reset = silent (step l reset)
play pool l (SetSampleRate r) = silent (step l (rate r))
