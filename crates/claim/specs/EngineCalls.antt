-- The engine as demand 3's claim takes one: its creation, its calls with what each gives back, and its view. Its blocks are lent no scratch. Assumes nothing.
use Rattle.std.specs.Prelude.{ℕ, false, List, [], length, Float}
use Rattle.std.proofs.Math.Option.{none}
use Rattle.event.specs.declared.ReplayMode.{ReplayMode}
use Rattle.ledger.specs.Calls.{Call, push, edit, tick, block, rate, reset, Answer, Reply}
use Rattle.ledger.specs.Claim.{Engine}
use Rattle.sequencer.specs.declared.Sequencer.{Sequencer}
use Rattle.sequencer.specs.declared.Outcome.{Outcome}
use Rattle.sequencer.specs.Answers.{answer_of, accepts}
use Rattle.sequencer.specs.Creation.{created}
use Rattle.sequencer.specs.Pushes.{pushes}
use Rattle.sequencer.specs.Edits.{edits}
use Rattle.sequencer.specs.Rendering.{ticks, tick_outs, blocks, block_outs}
use Rattle.sequencer.specs.Resets.{rates, resets}
use Rattle.claim.specs.View.{view_of}

-- Above each definition and each arm: the function of crate sequencer that it is, and the definition that this function's contract gives.

-- Sequencer::new: contract `created`
abbrev pub engine_new : (channels : ℕ) → ReplayMode → (first : ℕ) → Sequencer × Answer
engine_new channels mode first =
    let o = created channels mode first in
    (o.sequencer, answer_of o.answer)

-- the state after a call; its answer; and the output lent back, where one was lent
abbrev pub gives : Outcome → (out : List Float) → Sequencer × Reply
gives o out = (o.sequencer, record { answer = answer_of o.answer; out = out; scratch = none; filled = 0 })

abbrev pub engine_call : Sequencer → Call → Sequencer × Reply
-- Sequencer::push (absolute), push_relative (relative), push_duration (by_duration): contract `pushes_told`, which is `pushes` and the rise
engine_call s (push kind start end fade_in fade_out curve source gain) = gives (pushes kind s start end curve fade_in fade_out source gain) []
-- Sequencer::edit (absolute_end), edit_relative (relative_end): contract `edits`
engine_call s (edit kind k end fade_out) = gives (edits kind s (record { 0 = k }) end fade_out) []
-- Sequencer::tick: contract `ticks`, and of the lent output `tick_outs`
engine_call s (tick order pool out) = gives (ticks order pool (length out) s) (tick_outs order pool s out)
-- Sequencer::process: contract `blocks`, and of the lent output `block_outs`
engine_call s (block order n pool out scratch) = gives (blocks order pool n (length out) s) (block_outs order pool n s out)
-- Sequencer::set_sample_rate: contract `rates`
engine_call s (rate r) = gives (rates s r) []
-- Sequencer::reset, which gives the engine alone, since nothing refuses it: contract `resets`
engine_call s reset = gives (accepts (resets s)) []

abbrev pub engine : Engine
engine = record { State = Sequencer; lends = false; new = engine_new; call = engine_call; view = view_of }
