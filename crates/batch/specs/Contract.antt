-- What `push_records` leaves, gives back and writes into its lent slice, on every engine. Assumes nothing.
use Rattle.std.specs.Prelude.{ℕ, List, length}
use Rattle.sequencer.specs.declared.Sequencer.{Sequencer}
use Rattle.claim.specs.EngineCalls.{engine_call}
use Rattle.batch.specs.declared.Batch.{Batch}
use Rattle.batch.specs.Run.{Pushed, push_all, written}

-- the engine left behind, the numbers and the end of the whole call
abbrev pub push_records : Sequencer → (records : List ℕ) → (count : ℕ) → (slice : List ℕ) → Pushed Sequencer
push_records s bs count slice = push_all engine_call bs count slice s

-- "the answer says how many were laid and what ended it"
abbrev pub batch_of : Pushed Sequencer → Batch
batch_of p = record { pushed = length p.numbers; ended = p.ended }

abbrev pub numbers_after : Sequencer → (records : List ℕ) → (count : ℕ) → (slice : List ℕ) → List ℕ
numbers_after s bs count slice = written (push_records s bs count slice).numbers slice
