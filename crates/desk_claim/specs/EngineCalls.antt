-- The engine's desk as the desk's claim takes one: its creation, its calls with what each gives back, and its view. Assumes nothing.
use Rattle.std.specs.Prelude.{ℕ, List, [], map, length, Float}
use Rattle.event.specs.declared.ReplayMode.{ReplayMode}
use Rattle.ledger.specs.Calls as Calls
use Rattle.sequencer.specs.Answers as Engine
use Rattle.sequencer.specs.Creation.{created}
use Rattle.claim.specs.View.{view_of}
use Rattle.desk.specs.Desk.{push, edit, reset, tick, block, rate, Call, front, back, Reply}
use Rattle.desk.specs.Claim.{DeskView, DeskEngine}
use Rattle.realseq.specs.declared.SequencerBackend.{SequencerBackend}
use Rattle.realseq.specs.declared.Outcome.{Outcome}
use Rattle.realseq.specs.Queues.{opened}
use Rattle.realseq.specs.Handling as Handling
use Rattle.realseq.specs.Fronts.{pushes, edits, resets}
use Rattle.realseq.specs.Backs.{ticks, tick_outs, blocks, block_outs, rates}
use Rattle.realseq.specs.Answers.{answer_of, accepts}
use Rattle.desk_claim.specs.Ring.{listed}
use Rattle.desk_claim.specs.ReturnQueue.{in_queue}
use Rattle.desk_claim.specs.Related.{shown}

-- Above each definition and each arm: the function of crate realseq that it is, and the definition that this function's contract gives.

-- Sequencer::new (crate sequencer): contract `created`; SequencerBackend::new over its engine: contract `opened`
abbrev pub desk_new : (channels : ℕ) → ReplayMode → (first : ℕ) → SequencerBackend × Calls.Answer
desk_new channels mode first =
    let o = created channels mode first in
    (opened o.sequencer, Engine.answer_of o.answer)

-- the state after a call; its answer; and the output lent back, where one was lent
abbrev pub gives : Outcome → (out : List Float) → SequencerBackend × Reply
gives o out = (o.backend, record { answer = answer_of o.answer; out = out })

abbrev pub desk_call : SequencerBackend → Call → SequencerBackend × Reply
-- SequencerBackend::push (absolute), push_relative (relative), push_duration (by_duration): contract `pushes`
desk_call d (front (push kind start end fade_in fade_out curve source gain)) = gives (pushes kind d start end curve fade_in fade_out source gain) []
-- SequencerBackend::edit (absolute_end), edit_relative (relative_end): contract `edits`
desk_call d (front (edit kind k end fade_out)) = gives (edits kind d (record { 0 = k }) end fade_out) []
-- SequencerBackend::queue_reset: contract `resets`
desk_call d (front reset) = gives (resets d) []
-- SequencerBackend::tick: contract `ticks`, and of the lent output `tick_outs`
desk_call d (back (tick order pool out)) = gives (ticks order pool (length out) d) (tick_outs order pool d out)
-- SequencerBackend::process: contract `blocks`, and of the lent output `block_outs`
desk_call d (back (block order n pool out)) = gives (blocks order pool n (length out) d) (block_outs order pool n d out)
-- SequencerBackend::set_sample_rate: contract `rates`
desk_call d (back (rate r)) = gives (rates d r) []
-- SequencerBackend::reset, which gives the desk alone, since nothing refuses it: contract `reset` (realseq/specs/Handling)
desk_call d (back reset) = gives (accepts (Handling.reset d)) []

-- the arrays up to their counts
abbrev pub desk_view : SequencerBackend → DeskView
desk_view d = record { back = view_of d.sequencer; queued = map shown (listed d.messages); returned = in_queue d.returned }

abbrev pub desk_engine : DeskEngine
desk_engine = record { State = SequencerBackend; new = desk_new; call = desk_call; view = desk_view }
