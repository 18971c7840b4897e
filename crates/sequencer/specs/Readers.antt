-- What the readers give.
use Rattle.event.specs.declared.EventId.{EventId}
use Rattle.std.specs.Prelude.{ℕ}
use Rattle.std.specs.declared.option.Option.{Option as Found}
use Rattle.lists.specs.Index.{found_id}
use Rattle.sequencer.specs.declared.Sequencer.{Sequencer}
use Rattle.sequencer.specs.declared.readers.Counts.{Counts}
use Rattle.sequencer.specs.Edits.{index_of}

abbrev pub counts_of : Sequencer → Counts
counts_of s = record { waiting = s.ready_len; sounding = s.active_len; finished = s.past_len; let_go = s.let_go }

abbrev pub place_in : Sequencer → EventId → Found ℕ
place_in s k = found_id (index_of s) k
