-- What handling the queued messages makes of every desk. The desk ledger knows nothing of these; `desk_claim` joins them.
use Rattle.std.specs.Prelude.{ℕ, zero, suc, min, cond, List, slice_index_or, Float}
use Rattle.event.specs.declared.Edit.{Edit}
use Rattle.event.specs.declared.Event.{Event}
use Rattle.event.specs.declared.ReplayMode.{ReplayMode}
use Rattle.event.specs.declared.ReplayMode.TheVariants.{All, None}
use Rattle.event.specs.Blank.{blank}
use Rattle.floats.specs.Arithmetic.{◌+ᵈ◌}
use Rattle.ready.specs.declared.Ready.{Ready}
use Rattle.ready.specs.Waiting as Waiting
use Rattle.sequencer.specs.declared.Sequencer.{Sequencer}
use Rattle.sequencer.specs.Moves.{heap_of, pushed_event, pushed_relative, released_past}
use Rattle.sequencer.specs.Edits.{changed}
use Rattle.sequencer.specs.Resets as Engine
use Rattle.realseq.specs.declared.SequencerBackend.{SequencerBackend}
use Rattle.realseq.specs.declared.queues.Message.{Message}
use Rattle.realseq.specs.declared.queues.Message.TheVariants.{Reset, Push, PushRelative, Edit as Amend, EditRelative}
use Rattle.realseq.specs.declared.queues.Returned.{Returned}
use Rattle.realseq.specs.Queues.{is_reset, peeked, popped, sent}

-- ---- one message

abbrev pub later : (t : Float) → Edit → Edit
later t d = record { end_time = t +ᵈ d.end_time; fade_out = d.fade_out }

-- a reset acts later
unfoldable pub acted : Message → Sequencer → Sequencer
unfolding pushed_event pushed_relative changed
acted Reset s = s
acted (Push e) s = pushed_event s e
acted (PushRelative e) s = pushed_relative s e
acted (Amend k d) s = (changed s k d).sequencer
acted (EditRelative k d) s = (changed s k (later s.time d)).sequencer

-- ---- numbers sent back

-- the events at places n - 1 down to 0
unfoldable pub sent_down : (n : ℕ) → List Event → Returned → Returned
unfolding sent
sent_down zero xs r = r
sent_down (suc n) xs r = sent_down n xs (sent r (slice_index_or xs n blank).id)

-- the heap's first n, in order
unfoldable pub sent_ready : (n : ℕ) → Ready → Returned → Returned
unfolding sent
sent_ready zero h r = r
sent_ready (suc n) h r = sent_ready n (Waiting.popped h) (sent r (Waiting.peeked h).id)

-- after a tick or block
unfoldable pub past_sent_by : ReplayMode → SequencerBackend → SequencerBackend
unfolding sent_down released_past
past_sent_by All d = d
past_sent_by None d =
    let s = d.sequencer in
    record { sequencer = released_past s None; messages = d.messages; returned = sent_down (min s.past_len 256) s.past d.returned }

abbrev pub past_sent : SequencerBackend → SequencerBackend
past_sent d = past_sent_by d.sequencer.mode d

-- ---- a reset acts

unfoldable pub returned_by : ReplayMode → Sequencer → Returned → Returned
unfolding sent_down sent_ready
returned_by All s r = r
returned_by None s r =
    sent_down (min s.active_len 256) s.active
    (sent_ready (min s.ready_len 256) (heap_of s)
    (sent_down (min s.past_len 256) s.past r))

unfoldable pub restarted : SequencerBackend → SequencerBackend
unfolding returned_by
restarted d = record { sequencer = Engine.resets d.sequencer; messages = d.messages; returned = returned_by d.sequencer.mode d.sequencer d.returned }

-- ---- the queued messages, first to last

-- the first is taken off and handled
abbrev pub stepped : SequencerBackend → SequencerBackend
stepped d = record { sequencer = acted (peeked d.messages) d.sequencer; messages = popped d.messages; returned = d.returned }

-- n messages; what is behind a reset is handled before the reset acts
unfoldable pub handled : (n : ℕ) → SequencerBackend → SequencerBackend
unfolding acted restarted
handled zero d = d
handled (suc n) d = let r = handled n (stepped d) in cond (is_reset (peeked d.messages)) (restarted r) r

unfoldable pub drained : SequencerBackend → SequencerBackend
unfolding handled
drained d = handled d.messages.count d

unfoldable pub reset : SequencerBackend → SequencerBackend
unfolding drained
reset d = restarted (drained d)

-- the first is taken off
unfoldable pub taken : SequencerBackend → SequencerBackend
taken d = record { sequencer = d.sequencer; messages = popped d.messages; returned = d.returned }

-- n messages, but no further than the first reset
unfoldable pub handled_until : (n : ℕ) → SequencerBackend → SequencerBackend
handled_until zero d = d
handled_until (suc n) d = let r = handled_until n (stepped d) in cond (is_reset (peeked d.messages)) d r

unfoldable pub until_reset : SequencerBackend → SequencerBackend
unfolding handled_until
until_reset d = handled_until d.messages.count d
