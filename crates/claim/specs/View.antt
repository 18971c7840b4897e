-- What an engine is seen to hold.
use Rattle.std.specs.Prelude.{take}
use Rattle.ledger.specs.Claim as Claim
use Rattle.ledger.specs.Claim.{View}
use Rattle.lists.specs.PlaceFound.{place_found}
use Rattle.sequencer.specs.declared.Sequencer.{Sequencer}
use Rattle.sequencer.specs.declared.readers.Counts.{Counts}
use Rattle.sequencer.specs.Readers.{counts_of, place_in}

-- what `counts` gives
abbrev pub tells : Counts → Claim.Counts
tells c = record { waiting = c.waiting; sounding = c.sounding; finished = c.finished; gone = c.let_go }

-- the arrays up to their counts, what `counts` and `place` give, and all else
abbrev pub view_of : Sequencer → View
view_of s = record {
  heap = take s.ready_len s.ready;
  sounding = take s.active_len s.active;
  finished = take s.past_len s.past;
  counts = tells (counts_of s);
  index = λ k. place_found (place_in s (record { 0 = k }));
  edits = take s.edit_map.len s.edit_map.items;
  clock = s.time;
  threshold = s.active_threshold;
  rate = s.sample_rate;
  duration = s.sample_duration;
  channels = s.outputs;
  mode = s.mode;
  next = s.next;
}
