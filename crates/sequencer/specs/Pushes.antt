-- A push of any kind, on every engine.
use Rattle.std.specs.Prelude.{◌+◌, ◌%◌, ◌^◌, min, cond, ◌==◌, Float}
use Rattle.event.specs.declared.Event.{Event}
use Rattle.event.specs.declared.Fade.{Fade}
use Rattle.event.specs.declared.Source.{Source}
use Rattle.floats.specs.Arithmetic.{◌-ᵈ◌}
use Rattle.event.specs.Events.{new_event}
use Rattle.ledger.specs.Calls.{PushKind, number}
use Rattle.ledger.specs.Refusals.{stated_end}
use Rattle.ledger.specs.Steps.{pushed_time}
use Rattle.sequencer.specs.declared.Sequencer.{Sequencer}
use Rattle.sequencer.specs.declared.Outcome.{Outcome}
use Rattle.sequencer.specs.Parts.{with_next}
use Rattle.sequencer.specs.Moves.{pushed_event}
use Rattle.refusals.specs.Refusals.{push_refusal}
use Rattle.sequencer.specs.Answers.{said}
use Rattle.sequencer.specs.Outcomes.{refuses}

-- the event enters, and the next number is taken
abbrev pub enters : Sequencer → Event → Sequencer
enters s e = with_next (pushed_event s e) ((s.next + 1) % 2 ^ 64)

unfoldable pub admitted : Sequencer → (start end : Float) → Fade → (fade_in fade_out : Float) → Source → (gain : Float) → Outcome
unfolding pushed_event
admitted s start end curve fade_in fade_out source gain = record {
  sequencer = enters s (new_event start end fade_in fade_out curve source gain s.next);
  answer = said (number s.next);
}

-- `start` and `end` are as given, `lasts` is end - start, and the event is to last from `from` to `until`
unfoldable pub pushes_to : Sequencer → (start end lasts from until : Float) → Fade → (fade_in fade_out : Float) → Source → (gain : Float) → Outcome
unfolding admitted push_refusal
pushes_to s start end lasts from until curve fade_in fade_out source gain =
    let held = min (s.ready_len + (s.active_len + s.past_len)) 256 in
    let no = push_refusal start end lasts fade_in fade_out source gain held s.next in
    cond (no == 0) (admitted s from until curve fade_in fade_out source gain) (refuses s no)

unfoldable pub pushes : PushKind → Sequencer → (start end : Float) → Fade → (fade_in fade_out : Float) → Source → (gain : Float) → Outcome
unfolding pushes_to stated_end pushed_time
pushes kind s start end curve fade_in fade_out source gain =
    pushes_to s start end (stated_end kind start end -ᵈ start) (pushed_time kind s.time start) (pushed_time kind s.time (stated_end kind start end)) curve fade_in fade_out source gain
