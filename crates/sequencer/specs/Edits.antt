-- An edit of either kind, on every engine.
use Rattle.std.specs.Prelude.{ℕ, Bool, true, false, cond, ◌==◌, slice_index_or, slice_set, Float}
use Rattle.event.specs.declared.EventId.{EventId}
use Rattle.event.specs.declared.Edit.{Edit}
use Rattle.event.specs.Events.{edited_by}
use Rattle.event.specs.Blank.{blank}
use Rattle.floats.specs.Arithmetic.{◌<ᶠ◌}
use Rattle.lists.specs.declared.ActiveMap.{ActiveMap}
use Rattle.std.specs.declared.option.Option.{Option as Found}
use Rattle.std.specs.declared.option.Option.TheVariants.{Some, None}
use Rattle.lists.specs.Index.{found_id}
use Rattle.lists.specs.Edits as EditMaps
use Rattle.ledger.specs.Calls.{EditKind, applied, past, stored}
use Rattle.ledger.specs.Refusals.{edit_end}
use Rattle.sequencer.specs.declared.Sequencer.{Sequencer}
use Rattle.sequencer.specs.declared.Outcome.{Outcome}
use Rattle.sequencer.specs.Parts.{with_edits, with_sounding}
use Rattle.refusals.specs.Refusals.{edit_refusal}
use Rattle.sequencer.specs.Answers.{said}
use Rattle.sequencer.specs.Outcomes.{refuses}

abbrev pub index_of : Sequencer → ActiveMap
index_of s = record { ids = s.active_map; len = s.active_len }

-- the edited event's place in the sounding list; whether the edit ends before the threshold
unfoldable pub changed_by : Sequencer → EventId → Edit → Found ℕ → (over : Bool) → Outcome
changed_by s k d (Some i) over = record { sequencer = with_sounding s (slice_set s.active i (edited_by d (slice_index_or s.active i blank))); answer = said applied }
changed_by s k d None true = record { sequencer = s; answer = said past }
changed_by s k d None false = record { sequencer = with_edits s (EditMaps.stored s.edit_map k d); answer = said stored }

unfoldable pub changed : Sequencer → EventId → Edit → Outcome
unfolding changed_by
changed s k d = changed_by s k d (found_id (index_of s) k) (d.end_time <ᶠ s.active_threshold)

-- `end` is as given, `until` the end as it is to be
unfoldable pub amended : Sequencer → EventId → (end until fade_out : Float) → Outcome
unfolding edit_refusal changed
amended s k end until fade_out =
    let no = edit_refusal (found_id (index_of s) k) s.edit_map s.active_threshold k end until fade_out in
    cond (no == 0) (changed s k (record { end_time = until; fade_out = fade_out })) (refuses s no)

unfoldable pub edits : EditKind → Sequencer → EventId → (end fade_out : Float) → Outcome
unfolding amended edit_end
edits kind s k end fade_out = amended s k end (edit_end kind s.time end) fade_out
