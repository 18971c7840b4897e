-- What the calls read of an engine, on every engine: its arrays up to their counts, and no further than they go.
use Rattle.std.specs.Prelude.{Bool, true, Option, Some, None, List, ◌++◌, Float, take}
use Rattle.event.specs.declared.Event.{Event}
use Rattle.event.specs.Events.{earlier}
use Rattle.sequencer.specs.declared.Sequencer.{Sequencer}
use Rattle.overlap.specs.Stretch.{FirstWaiting, those, in_order, starts_from, first_answer}

-- the heap's array, the sounding and the finished
abbrev pub held_in : Sequencer → List Event
held_in s = take s.ready_len s.ready ++ (take s.active_len s.active ++ take s.past_len s.past)

-- the heap's array is not in order
unfoldable pub first_read : (time : Float) → Sequencer → FirstWaiting
unfolding first_answer those
first_read t s = first_answer t (in_order (those (starts_from t) (take s.ready_len s.ready)))

-- whether an event comes before the first so far, where there is one
abbrev pub comes_first : Event → Option Event → Bool
comes_first e None = true
comes_first e (Some f) = earlier e f
