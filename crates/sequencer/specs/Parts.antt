-- The engine with another part. antt has no record update, so each is written out.
use Rattle.std.specs.Prelude.{ℕ, List, Float}
use Rattle.event.specs.declared.Event.{Event}
use Rattle.event.specs.declared.EventId.{EventId}
use Rattle.lists.specs.declared.EditMap.{EditMap}
use Rattle.sequencer.specs.declared.Sequencer.{Sequencer}

abbrev pub with_ready : Sequencer → List Event → ℕ → Sequencer
with_ready s xs n = record {
  ready = xs;
  ready_len = n;
  active = s.active;
  active_len = s.active_len;
  active_map = s.active_map;
  past = s.past;
  past_len = s.past_len;
  edit_map = s.edit_map;
  time = s.time;
  active_threshold = s.active_threshold;
  sample_rate = s.sample_rate;
  sample_duration = s.sample_duration;
  outputs = s.outputs;
  mode = s.mode;
  next = s.next;
  let_go = s.let_go;
}

abbrev pub with_active : Sequencer → List Event → List EventId → ℕ → Sequencer
with_active s xs ids n = record {
  ready = s.ready;
  ready_len = s.ready_len;
  active = xs;
  active_len = n;
  active_map = ids;
  past = s.past;
  past_len = s.past_len;
  edit_map = s.edit_map;
  time = s.time;
  active_threshold = s.active_threshold;
  sample_rate = s.sample_rate;
  sample_duration = s.sample_duration;
  outputs = s.outputs;
  mode = s.mode;
  next = s.next;
  let_go = s.let_go;
}

abbrev pub with_past : Sequencer → List Event → ℕ → Sequencer
with_past s xs n = record {
  ready = s.ready;
  ready_len = s.ready_len;
  active = s.active;
  active_len = s.active_len;
  active_map = s.active_map;
  past = xs;
  past_len = n;
  edit_map = s.edit_map;
  time = s.time;
  active_threshold = s.active_threshold;
  sample_rate = s.sample_rate;
  sample_duration = s.sample_duration;
  outputs = s.outputs;
  mode = s.mode;
  next = s.next;
  let_go = s.let_go;
}

abbrev pub with_edits : Sequencer → EditMap → Sequencer
with_edits s m = record {
  ready = s.ready;
  ready_len = s.ready_len;
  active = s.active;
  active_len = s.active_len;
  active_map = s.active_map;
  past = s.past;
  past_len = s.past_len;
  edit_map = m;
  time = s.time;
  active_threshold = s.active_threshold;
  sample_rate = s.sample_rate;
  sample_duration = s.sample_duration;
  outputs = s.outputs;
  mode = s.mode;
  next = s.next;
  let_go = s.let_go;
}

abbrev pub with_times : Sequencer → (time threshold : Float) → Sequencer
with_times s t θ = record {
  ready = s.ready;
  ready_len = s.ready_len;
  active = s.active;
  active_len = s.active_len;
  active_map = s.active_map;
  past = s.past;
  past_len = s.past_len;
  edit_map = s.edit_map;
  time = t;
  active_threshold = θ;
  sample_rate = s.sample_rate;
  sample_duration = s.sample_duration;
  outputs = s.outputs;
  mode = s.mode;
  next = s.next;
  let_go = s.let_go;
}

abbrev pub with_rate : Sequencer → (rate duration : Float) → Sequencer
with_rate s r d = record {
  ready = s.ready;
  ready_len = s.ready_len;
  active = s.active;
  active_len = s.active_len;
  active_map = s.active_map;
  past = s.past;
  past_len = s.past_len;
  edit_map = s.edit_map;
  time = s.time;
  active_threshold = s.active_threshold;
  sample_rate = r;
  sample_duration = d;
  outputs = s.outputs;
  mode = s.mode;
  next = s.next;
  let_go = s.let_go;
}

abbrev pub with_next : Sequencer → ℕ → Sequencer
with_next s n = record {
  ready = s.ready;
  ready_len = s.ready_len;
  active = s.active;
  active_len = s.active_len;
  active_map = s.active_map;
  past = s.past;
  past_len = s.past_len;
  edit_map = s.edit_map;
  time = s.time;
  active_threshold = s.active_threshold;
  sample_rate = s.sample_rate;
  sample_duration = s.sample_duration;
  outputs = s.outputs;
  mode = s.mode;
  next = n;
  let_go = s.let_go;
}

abbrev pub with_let_go : Sequencer → ℕ → Sequencer
with_let_go s n = record {
  ready = s.ready;
  ready_len = s.ready_len;
  active = s.active;
  active_len = s.active_len;
  active_map = s.active_map;
  past = s.past;
  past_len = s.past_len;
  edit_map = s.edit_map;
  time = s.time;
  active_threshold = s.active_threshold;
  sample_rate = s.sample_rate;
  sample_duration = s.sample_duration;
  outputs = s.outputs;
  mode = s.mode;
  next = s.next;
  let_go = n;
}

-- other events at the places of the sounding list
abbrev pub with_sounding : Sequencer → List Event → Sequencer
with_sounding s xs = with_active s xs s.active_map s.active_len
