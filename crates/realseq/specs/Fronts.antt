-- The calls of the front, on every desk.
use Rattle.std.specs.Prelude.{ℕ, ◌+◌, ◌%◌, ◌^◌, min, Bool, true, false, cond, ◌==◌, nat_le, Float}
use Rattle.event.specs.declared.Edit.{Edit}
use Rattle.event.specs.declared.Event.{Event}
use Rattle.event.specs.declared.EventId.{EventId}
use Rattle.event.specs.declared.Fade.{Fade}
use Rattle.event.specs.declared.Source.{Source}
use Rattle.floats.specs.Arithmetic.{◌-ᵈ◌}
use Rattle.event.specs.Events.{new_event}
use Rattle.ledger.specs.Calls.{PushKind, EditKind}
use Rattle.desk.specs.Relative.{is_relative, end_relative}
use Rattle.ledger.specs.Refusals.{stated_end}
use Rattle.refusals.specs.Refusals.{push_refusal, edit_limits}
use Rattle.sequencer.specs.Parts.{with_next}
use Rattle.realseq.specs.declared.SequencerBackend.{SequencerBackend}
use Rattle.realseq.specs.declared.Outcome.{Outcome}
use Rattle.desk.specs.Desk.{number, queued}
use Rattle.realseq.specs.Answers.{said, refuses}
use Rattle.realseq.specs.declared.queues.Message.{Message}
use Rattle.realseq.specs.declared.queues.Message.TheVariants.{Reset, Push, PushRelative, Edit as Amend, EditRelative}
use Rattle.realseq.specs.Queues.{pushed, tallied, emptied}

-- the return queue is emptied, and the message queued
unfoldable pub queued_with : Message → SequencerBackend → SequencerBackend
unfolding pushed
queued_with m d = record { sequencer = d.sequencer; messages = pushed d.messages m; returned = emptied d.returned }

-- the next number has been given; after 2 ^ 64 - 1 it is 0
unfoldable pub numbered : SequencerBackend → SequencerBackend
numbered d = record { sequencer = with_next d.sequencer ((d.sequencer.next + 1) % 2 ^ 64); messages = d.messages; returned = d.returned }

-- 13, where no other refusal applies
abbrev pub or_full : SequencerBackend → (number : ℕ) → ℕ
or_full d k = cond (k == 0) (cond (nat_le 64 d.messages.count) 13 0) k

-- ---- pushes

-- 3 to 7, queued pushes counting for 6, then 13; `lasts` is end - start
unfoldable pub push_refused : SequencerBackend → (start end lasts fade_in fade_out : Float) → Source → (gain : Float) → ℕ
unfolding push_refusal tallied
push_refused d start end lasts fade_in fade_out source gain =
    let s = d.sequencer in
    let held = min (s.ready_len + (s.active_len + s.past_len)) 256 + tallied d.messages 1 in
    or_full d (push_refusal start end lasts fade_in fade_out source gain held s.next)

abbrev pub push_message : (relative : Bool) → Event → Message
push_message true e = PushRelative e
push_message false e = Push e

-- an event from start to until; `end` is the end or the duration as given
unfoldable pub sends_push : SequencerBackend → (relative : Bool) → (start end until : Float) → Fade → (fade_in fade_out : Float) → Source → (gain : Float) → Outcome
unfolding push_refused queued_with numbered
sends_push d relative start end until curve fade_in fade_out source gain =
    let no = push_refused d start end (until -ᵈ start) fade_in fade_out source gain in
    let k = d.sequencer.next in
    cond (no == 0)
    (record { backend = queued_with (push_message relative (new_event start until fade_in fade_out curve source gain k)) (numbered d); answer = said (number k) })
    (refuses d no)

unfoldable pub pushes : PushKind → SequencerBackend → (start end : Float) → Fade → (fade_in fade_out : Float) → Source → (gain : Float) → Outcome
unfolding sends_push stated_end
pushes kind d start end curve fade_in fade_out source gain = sends_push d (is_relative kind) start end (stated_end kind start end) curve fade_in fade_out source gain

-- ---- edits

-- 8, 9 as stored plus queued edits, then 13
unfoldable pub edit_refused : SequencerBackend → (end fade_out : Float) → ℕ
unfolding edit_limits tallied
edit_refused d end fade_out =
    let no = edit_limits end fade_out in
    cond (no == 0) (cond (nat_le 256 (d.sequencer.edit_map.len + tallied d.messages 2)) 9 (or_full d 0)) no

abbrev pub edit_message : (relative : Bool) → EventId → Edit → Message
edit_message true k d = EditRelative k d
edit_message false k d = Amend k d

unfoldable pub sends_edit : SequencerBackend → (relative : Bool) → EventId → (end fade_out : Float) → Outcome
unfolding edit_refused queued_with
sends_edit d relative k end fade_out =
    let no = edit_refused d end fade_out in
    cond (no == 0) (record { backend = queued_with (edit_message relative k (record { end_time = end; fade_out = fade_out })) d; answer = said queued }) (refuses d no)

abbrev pub edits : EditKind → SequencerBackend → EventId → (end fade_out : Float) → Outcome
edits kind d k end fade_out = sends_edit d (end_relative kind) k end fade_out

-- ---- a reset

unfoldable pub resets : SequencerBackend → Outcome
unfolding queued_with
resets d = cond (nat_le 64 d.messages.count) (refuses d 13) (record { backend = queued_with Reset d; answer = said queued })
