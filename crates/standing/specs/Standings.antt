-- Where a clip stands, by its number, on the plain ledger and on an engine; and what becomes of an edit. They run.
use Rattle.std.specs.Prelude.{ℕ, Bool, cond, take}
use Rattle.ledger.specs.Lists.{has}
use Rattle.ledger.specs.Ledger.{Ledger}
use Rattle.ledger.specs.Calls.{absolute_end, relative_end}
use Rattle.sequencer.specs.declared.Sequencer.{Sequencer}
use Rattle.sequencer.specs.declared.Answer.{Answer}
use Rattle.sequencer.specs.Edits.{edits}
use Rattle.tape.specs.declared.reader.EditRecord.{EditRecord}
use Rattle.standing.specs.declared.Standing.{Standing}
use Rattle.standing.specs.declared.Standing.TheVariants.{Waiting, Sounding, Finished, LetGo}

-- which of W, S and F has the number; else it was let go
abbrev pub placed : (waits sounds finished : Bool) → Standing
placed w s f = cond w Waiting (cond s Sounding (cond f Finished LetGo))

-- on an engine: its arrays up to their counts
unfoldable pub standing_in : Sequencer → ℕ → Standing
standing_in s k = placed (has k (take s.ready_len s.ready)) (has k (take s.active_len s.active)) (has k (take s.past_len s.past))

-- on the ledger
unfoldable pub standing_of : Ledger → ℕ → Standing
standing_of l k = placed (has k l.waiting) (has k l.sounding) (has k l.finished)

-- what becomes of an edit
unfoldable pub edit_answer : (relative : Bool) → Sequencer → EditRecord → Answer
edit_answer relative s p = (edits (cond relative relative_end absolute_end) s p.id p.end_time p.fade_out).answer
