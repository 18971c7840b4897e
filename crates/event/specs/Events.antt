-- Events: a new one, their order in the waiting heap, an edit applied, and a rewound source.
use Rattle.std.specs.Prelude.{ℕ, Bool, Float}
use Rattle.event.specs.declared.Event.{Event}
use Rattle.event.specs.declared.Edit.{Edit}
use Rattle.event.specs.declared.Unit.{Unit}
use Rattle.event.specs.declared.Fade.{Fade}
use Rattle.event.specs.declared.Source.{Source}
use Rattle.event.specs.Sources.{at_start}
use Rattle.floats.specs.Floats.{sooner}

abbrev pub number_of : Event → ℕ
number_of e = e.id.0

-- by start, then by lower number
abbrev pub earlier : Event → Event → Bool
earlier a b = sooner a.start_time (number_of a) b.start_time (number_of b)

-- an event of number k, its source at its beginning
abbrev pub new_event : (start end fade_in fade_out : Float) → Fade → Source → (gain : Float) → (number : ℕ) → Event
new_event start end fade_in fade_out curve source gain k = record {
  start_time = start;
  end_time = end;
  fade_in = fade_in;
  fade_out = fade_out;
  fade_ease = curve;
  unit = at_start source;
  gain = gain;
  id = record { 0 = k };
}

-- an edit replaces end and fade-out
abbrev pub edited_by : Edit → Event → Event
edited_by d e = record {
  start_time = e.start_time;
  end_time = d.end_time;
  fade_in = e.fade_in;
  fade_out = d.fade_out;
  fade_ease = e.fade_ease;
  unit = e.unit;
  gain = e.gain;
  id = e.id;
}

-- an event whose source stands elsewhere
abbrev pub with_unit : Unit → Event → Event
with_unit u e = record {
  start_time = e.start_time;
  end_time = e.end_time;
  fade_in = e.fade_in;
  fade_out = e.fade_out;
  fade_ease = e.fade_ease;
  unit = u;
  gain = e.gain;
  id = e.id;
}

-- a reset rewinds the source
abbrev pub rewound : Event → Event
rewound e = with_unit (at_start e.unit.source) e
