-- Reset and a change of the rate, on every engine.
use Rattle.std.specs.Prelude.{ℕ, zero, suc, ◌+◌, ◌%◌, ◌^◌, min, cond, List, ◌==◌, slice_index_or, slice_set, Float}
use Rattle.std.specs.Float.Ieee.{eq}
use Rattle.event.specs.declared.Event.{Event}
use Rattle.event.specs.declared.ReplayMode.{ReplayMode}
use Rattle.event.specs.declared.ReplayMode.TheVariants.{All, None}
use Rattle.event.specs.Events.{rewound}
use Rattle.event.specs.Blank.{blank}
use Rattle.floats.specs.Arithmetic.{◌÷ᵈ◌, zeroᶠ, oneᶠ, -∞}
use Rattle.lists.specs.declared.EditMap.{EditMap}
use Rattle.sequencer.specs.declared.Sequencer.{Sequencer}
use Rattle.sequencer.specs.declared.Outcome.{Outcome}
use Rattle.sequencer.specs.Parts.{with_ready, with_active, with_past, with_edits, with_times, with_rate, with_let_go}
use Rattle.sequencer.specs.Moves.{all_to_ready}
use Rattle.refusals.specs.Refusals.{rate_refusal}
use Rattle.sequencer.specs.Answers.{accepts}
use Rattle.sequencer.specs.Outcomes.{refuses}

-- ---- reset

-- f of the events of xs, from place i on, with their sources at the beginning
unfoldable pub rewinds : (f : ℕ) → (xs : List Event) → (i : ℕ) → List Event
rewinds zero xs i = xs
rewinds (suc f) xs i = rewinds f (slice_set xs i (rewound (slice_index_or xs i blank))) (suc i)

unfoldable pub rewound_ready : Sequencer → Sequencer
unfolding rewinds
rewound_ready s = with_ready s (rewinds (min s.ready_len 256) s.ready 0) s.ready_len

abbrev pub cleared_edits : EditMap → EditMap
cleared_edits m = record { items = m.items; len = 0 }

-- no list holds an event any more, and the count of those let go is l
abbrev pub emptied_lists : Sequencer → (l : ℕ) → Sequencer
emptied_lists s l = with_let_go (with_ready (with_active (with_past (with_edits s (cleared_edits s.edit_map)) s.past 0) s.active s.active_map 0) s.ready 0) l

unfoldable pub reset_by : Sequencer → ReplayMode → Sequencer
unfolding rewound_ready all_to_ready
reset_by s All = with_times (rewound_ready (all_to_ready s)) zeroᶠ -∞
reset_by s None = with_times (emptied_lists s ((s.let_go + (min s.past_len 256 + (min s.ready_len 256 + min s.active_len 256))) % 2 ^ 64)) zeroᶠ -∞

abbrev pub resets : Sequencer → Sequencer
resets s = reset_by s s.mode

-- ---- rate

unfoldable pub re_rated : Sequencer → (rate : Float) → Sequencer
unfolding all_to_ready
re_rated s r =
    let a = all_to_ready s in
    cond (eq s.sample_rate r) s (with_rate (with_times a a.time -∞) r (oneᶠ ÷ᵈ r))

unfoldable pub rates : Sequencer → (rate : Float) → Outcome
unfolding rate_refusal re_rated
rates s r = cond (rate_refusal r == 0) (accepts (re_rated s r)) (refuses s (rate_refusal r))
