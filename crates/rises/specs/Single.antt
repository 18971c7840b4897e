-- One push: refused, it leaves the engine as it is and has no rise; accepted, its event enters. Assumes nothing.
use Rattle.std.specs.Prelude.{ℕ, suc, ◌+◌, ◌≤◌, min}
use Rattle.event.specs.declared.Event.{Event}
use Rattle.event.specs.Events.{new_event}
use Rattle.floats.specs.Arithmetic.{◌-ᵈ◌}
use Rattle.ledger.specs.Refusals.{stated_end}
use Rattle.ledger.specs.Steps.{pushed_time}
use Rattle.refusals.specs.Refusals.{push_refusal}
use Rattle.sequencer.specs.declared.Sequencer.{Sequencer}
use Rattle.sequencer.specs.declared.Pushed.{Pushed}
use Rattle.sequencer.specs.Pushes.{admitted}
use Rattle.sequencer.specs.Rises.{rise_of, with_rise}
use Rattle.rises.specs.Totals.{Push, bound}

-- the number of its refusal, or 0; and the event that enters if it is accepted
abbrev pub no_of : Sequencer → Push → ℕ
no_of s p =
    let r = p.1 in
    push_refusal r.start_time r.end_time (stated_end p.0 r.start_time r.end_time -ᵈ r.start_time) r.fade_in r.fade_out r.source r.gain
    (min (s.ready_len + (s.active_len + s.past_len)) 256) s.next

abbrev pub event_of : Sequencer → Push → Event
event_of s p =
    let r = p.1 in
    new_event (pushed_time p.0 s.time r.start_time) (pushed_time p.0 s.time (stated_end p.0 r.start_time r.end_time)) r.fade_in r.fade_out r.fade_ease r.source r.gain s.next

abbrev pub entered_by : Sequencer → Push → Pushed
entered_by s p =
    let r = p.1 in
    let from = pushed_time p.0 s.time r.start_time in
    let until = pushed_time p.0 s.time (stated_end p.0 r.start_time r.end_time) in
    with_rise (admitted s from until r.fade_ease r.fade_in r.fade_out r.source r.gain) (rise_of s (event_of s p))

module _ (s : Sequencer) (e : Event) where
  abbrev pub n : ℕ
  n = s.ready_len

  abbrev pub Bounded : (rise : ℕ) → Sequencer → Type 0
  Bounded r t = (r + bound n ≤ bound t.ready_len) × (t.ready_len ≤ suc n)
