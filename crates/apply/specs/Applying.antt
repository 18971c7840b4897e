-- What a record's call does to the engine, and which samples it leaves in the lent output. Assumes nothing.
use Rattle.std.specs.Prelude.{ℕ, ◌*◌, min, cond, List, ◌++◌, eqb, Float, length, take, drop}
use Rattle.event.specs.declared.MixOrder.TheVariants.{Forward}
use Rattle.sequencer.specs.declared.Sequencer.{Sequencer}
use Rattle.sequencer.specs.declared.Outcome.{Outcome}
use Rattle.sequencer.specs.declared.Answer.{Answer}
use Rattle.sequencer.specs.declared.Answer.TheVariants.{Number, Applied as applied, Past, Stored, Done, Rendered, Refused}
use Rattle.sequencer.specs.Creation.{created}
use Rattle.sequencer.specs.Pushes.{pushes}
use Rattle.sequencer.specs.Edits.{edits}
use Rattle.sequencer.specs.Rendering.{ticks, tick_outs, blocks, block_outs}
use Rattle.sequencer.specs.Resets.{resets, rates}
use Rattle.ledger.specs.Calls.{PushKind, absolute, relative, by_duration, absolute_end, relative_end}
use Rattle.tape.specs.declared.reader.PushRecord.{PushRecord}
use Rattle.tape.specs.declared.reader.Call.{Call}
use Rattle.tape.specs.declared.reader.Call.TheVariants.{Create, Push, PushRelative, PushDuration, Edit, EditRelative, Tick, Process, Reset, SetSampleRate}
use Rattle.apply.specs.declared.Applied.{Applied}

-- an answer's refusal, 0 if the call was accepted
abbrev pub refusal_of : Answer → ℕ
refusal_of (Refused n) = n
refusal_of (Number k) = 0
refusal_of applied = 0
refusal_of Past = 0
refusal_of Stored = 0
refusal_of Done = 0
refusal_of (Rendered c) = 0

-- a call that has no samples
abbrev pub silent : Sequencer → (refusal : ℕ) → Applied
silent s n = record { sequencer = s; refusal = n; channels = 0; each = 0; stride = 0 }

abbrev pub silent_of : Outcome → Applied
silent_of r = silent r.sequencer (refusal_of r.answer)

-- an accepted tick or block has left `each` samples of every channel, `stride` places apart
unfoldable pub sounding_of : Outcome → (channels each stride : ℕ) → Applied
sounding_of r n e s =
    cond (eqb (refusal_of r.answer) 0) (record { sequencer = r.sequencer; refusal = 0; channels = n; each = e; stride = s })
    (silent_of r)

abbrev pub channels_of : Sequencer → ℕ
channels_of s = min s.outputs 8

-- the places that are lent to the engine: as many as it wants, or all
abbrev pub lent_tick : Sequencer → (out : List Float) → ℕ
lent_tick s out = min (channels_of s) (length out)

abbrev pub lent_block : Sequencer → (out : List Float) → ℕ
lent_block s out = min (64 * channels_of s) (length out)

-- the tape has no mark (document 02, Paper 9): its ticks and blocks add in S order

unfoldable pub ticking : (pool : List Float) → Sequencer → (out : List Float) → Applied
ticking pool s out = sounding_of (ticks Forward pool (lent_tick s out) s) (channels_of s) 1 1

unfoldable pub ticking_out : (pool : List Float) → Sequencer → (out : List Float) → List Float
ticking_out pool s out = tick_outs Forward pool s (take (lent_tick s out) out) ++ drop (lent_tick s out) out

unfoldable pub processing : (pool : List Float) → (n : ℕ) → Sequencer → (out : List Float) → Applied
processing pool n s out = sounding_of (blocks Forward pool n (lent_block s out) s) (channels_of s) n 64

unfoldable pub processing_out : (pool : List Float) → (n : ℕ) → Sequencer → (out : List Float) → List Float
processing_out pool n s out = block_outs Forward pool n s (take (lent_block s out) out) ++ drop (lent_block s out) out

-- "01 push, 02 relative, 03 by duration"
abbrev pub push_kind_of : ℕ → PushKind
push_kind_of kind = cond (eqb kind 1) absolute (cond (eqb kind 2) relative by_duration)

abbrev pub pushed : PushKind → Sequencer → PushRecord → Outcome
pushed kind s p = pushes kind s p.start_time p.end_time p.fade_ease p.fade_in p.fade_out p.source p.gain

-- the call of each kind of record
unfoldable pub applied_to : (pool : List Float) → Sequencer → Call → (out : List Float) → Applied
applied_to pool s (Create channels mode first) out = silent_of (created channels mode first)
applied_to pool s (Push p) out = silent_of (pushed absolute s p)
applied_to pool s (PushRelative p) out = silent_of (pushed relative s p)
applied_to pool s (PushDuration p) out = silent_of (pushed by_duration s p)
applied_to pool s (Edit p) out = silent_of (edits absolute_end s p.id p.end_time p.fade_out)
applied_to pool s (EditRelative p) out = silent_of (edits relative_end s p.id p.end_time p.fade_out)
applied_to pool s Tick out = ticking pool s out
applied_to pool s (Process n) out = processing pool n s out
applied_to pool s Reset out = silent (resets s) 0
applied_to pool s (SetSampleRate rate) out = silent_of (rates s rate)

-- the output afterwards
unfoldable pub applied_out : (pool : List Float) → Sequencer → Call → (out : List Float) → List Float
applied_out pool s (Create channels mode first) out = out
applied_out pool s (Push p) out = out
applied_out pool s (PushRelative p) out = out
applied_out pool s (PushDuration p) out = out
applied_out pool s (Edit p) out = out
applied_out pool s (EditRelative p) out = out
applied_out pool s Tick out = ticking_out pool s out
applied_out pool s (Process n) out = processing_out pool n s out
applied_out pool s Reset out = out
applied_out pool s (SetSampleRate rate) out = out
