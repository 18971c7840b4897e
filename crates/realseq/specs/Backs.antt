-- The calls of the back, on every desk: refused before the messages are handled, or carried out after it.
use Rattle.std.specs.Prelude.{ℕ, cond, List, length, ◌==◌, Float}
use Rattle.event.specs.declared.MixOrder.{MixOrder}
use Rattle.refusals.specs.Refusals.{tick_refusal, process_refusal, rate_refusal}
use Rattle.sequencer.specs.declared.Sequencer.{Sequencer}
use Rattle.sequencer.specs.declared.Outcome as Engine
use Rattle.sequencer.specs.Rendering.{rendered_tick, rendered_tick_out, rendered_block, rendered_places, rendered_block_out}
use Rattle.sequencer.specs.Resets.{re_rated}
use Rattle.realseq.specs.declared.SequencerBackend.{SequencerBackend}
use Rattle.realseq.specs.declared.Outcome.{Outcome}
use Rattle.realseq.specs.Handling.{past_sent_by, past_sent, drained}
use Rattle.realseq.specs.Answers.{as_desk, accepts, renders, refuses}

abbrev pub with_engine : SequencerBackend → Sequencer → SequencerBackend
with_engine d s = record { sequencer = s; messages = d.messages; returned = d.returned }

-- the engine's outcome r as the desk's: in mode None the finished are returned after it
abbrev pub stepped_to : SequencerBackend → Engine.Outcome → Outcome
stepped_to b r = record { backend = past_sent (with_engine b r.sequencer); answer = as_desk r.answer }

abbrev pub tick_no : SequencerBackend → (len : ℕ) → ℕ
tick_no d len = tick_refusal len d.sequencer.outputs d.sequencer.time d.sequencer.sample_duration

unfoldable pub ticks : MixOrder → (pool : List Float) → (len : ℕ) → SequencerBackend → Outcome
unfolding tick_refusal drained rendered_tick past_sent_by
ticks order pool len d =
    let b = drained d in
    cond (tick_no d len == 0) (accepts (past_sent (with_engine b (rendered_tick order pool b.sequencer)))) (refuses d (tick_no d len))

unfoldable pub tick_outs : MixOrder → (pool : List Float) → SequencerBackend → (out : List Float) → List Float
unfolding tick_refusal drained rendered_tick_out
tick_outs order pool d out = cond (tick_no d (length out) == 0) (rendered_tick_out order pool (drained d).sequencer out) out

abbrev pub block_no : SequencerBackend → (n len : ℕ) → ℕ
block_no d n len = process_refusal n len d.sequencer.outputs d.sequencer.time d.sequencer.sample_duration

unfoldable pub blocks : MixOrder → (pool : List Float) → (n len : ℕ) → SequencerBackend → Outcome
unfolding process_refusal drained rendered_block rendered_places past_sent_by
blocks order pool n len d =
    let b = drained d in
    cond (block_no d n len == 0) (renders (rendered_places order n b.sequencer) (past_sent (with_engine b (rendered_block order pool n b.sequencer)))) (refuses d (block_no d n len))

unfoldable pub block_outs : MixOrder → (pool : List Float) → (n : ℕ) → SequencerBackend → (out : List Float) → List Float
unfolding process_refusal drained rendered_block_out
block_outs order pool n d out = cond (block_no d n (length out) == 0) (rendered_block_out order pool n (drained d).sequencer out) out

unfoldable pub rates : SequencerBackend → (rate : Float) → Outcome
unfolding rate_refusal drained re_rated
rates d r =
    let b = drained d in
    cond (rate_refusal r == 0) (accepts (with_engine b (re_rated b.sequencer r))) (refuses d (rate_refusal r))
