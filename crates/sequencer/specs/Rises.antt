-- Document 02, Paper 13: "Beside its compared answer a push on the engine itself now says how many levels its event rose". What it says on every engine; crate `rises` shows that on a reached one it is the paper's number.
use Rattle.std.specs.Prelude.{ℕ, ◌+◌, min, cond, ◌==◌, nat_lt, Float}
use Rattle.std.specs.Float.Ieee.{lt}
use Rattle.event.specs.declared.Event.{Event}
use Rattle.event.specs.declared.Fade.{Fade}
use Rattle.event.specs.declared.Source.{Source}
use Rattle.event.specs.Events.{earlier, new_event}
use Rattle.event.specs.Blank.{blank}
use Rattle.floats.specs.Arithmetic.{◌-ᵈ◌}
use Rattle.ready.specs.Levels.{levels}
use Rattle.ledger.specs.Calls.{PushKind}
use Rattle.ledger.specs.Refusals.{stated_end}
use Rattle.ledger.specs.Steps.{pushed_time}
use Rattle.refusals.specs.Refusals.{push_refusal}
use Rattle.sequencer.specs.declared.Sequencer.{Sequencer}
use Rattle.sequencer.specs.declared.Outcome.{Outcome}
use Rattle.sequencer.specs.declared.Pushed.{Pushed}
use Rattle.sequencer.specs.Pushes.{pushes}

-- from the heap's first free place; a full heap stays as it is
unfoldable pub rise_ready : Sequencer → Event → ℕ
unfolding levels
rise_ready s e = cond (nat_lt s.ready_len 256) (levels earlier blank s.ready_len s.ready s.ready_len e) 0

-- "0 if straight to S"
unfoldable pub rise_of : Sequencer → Event → ℕ
unfolding rise_ready lt
rise_of s e = cond (lt e.start_time s.active_threshold) 0 (rise_ready s e)

-- of a push as `pushes_to` has it; a refused one has no rise
unfoldable pub rise_to : Sequencer → (start end lasts from until : Float) → Fade → (fade_in fade_out : Float) → Source → (gain : Float) → ℕ
unfolding rise_of push_refusal
rise_to s start end lasts from until curve fade_in fade_out source gain =
    let held = min (s.ready_len + (s.active_len + s.past_len)) 256 in
    let no = push_refusal start end lasts fade_in fade_out source gain held s.next in
    cond (no == 0) (rise_of s (new_event from until fade_in fade_out curve source gain s.next)) 0

-- and of a push of any kind
unfoldable pub rise_by : PushKind → Sequencer → (start end : Float) → Fade → (fade_in fade_out : Float) → Source → (gain : Float) → ℕ
unfolding rise_to stated_end pushed_time
rise_by kind s start end curve fade_in fade_out source gain =
    rise_to s start end (stated_end kind start end -ᵈ start) (pushed_time kind s.time start) (pushed_time kind s.time (stated_end kind start end)) curve fade_in fade_out source gain

-- the outcome, and beside it the rise
abbrev pub with_rise : Outcome → ℕ → Pushed
with_rise o n = record { sequencer = o.sequencer; answer = o.answer; rise = n }

abbrev pub pushes_told : PushKind → Sequencer → (start end : Float) → Fade → (fade_in fade_out : Float) → Source → (gain : Float) → Pushed
pushes_told kind s start end curve fade_in fade_out source gain =
    with_rise (pushes kind s start end curve fade_in fade_out source gain) (rise_by kind s start end curve fade_in fade_out source gain)
