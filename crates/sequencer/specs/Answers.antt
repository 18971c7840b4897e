-- Document 01's numbers and values for the cases of `Answer`. Every definition of an outcome names its answer by `said`, and the claim reads it back by `answer_of`.
use Rattle.ledger.specs.Calls as Calls
use Rattle.ledger.specs.Calls.{number, applied, past, stored, done, rendered, refused}
use Rattle.sequencer.specs.declared.Sequencer.{Sequencer}
use Rattle.sequencer.specs.declared.Outcome.{Outcome}
use Rattle.sequencer.specs.declared.Answer.{Answer}
use Rattle.sequencer.specs.declared.Answer.TheVariants.{Number, Applied, Past, Stored, Done, Rendered, Refused}

abbrev pub said : Calls.Answer → Answer
said (number k) = Number (record { 0 = k })
said applied = Applied
said past = Past
said stored = Stored
said done = Done
said (rendered c) = Rendered c
said (refused k) = Refused k

abbrev pub answer_of : Answer → Calls.Answer
answer_of (Number k) = number k.0
answer_of Applied = applied
answer_of Past = past
answer_of Stored = stored
answer_of Done = done
answer_of (Rendered c) = rendered c
answer_of (Refused k) = refused k

abbrev pub accepts : Sequencer → Outcome
accepts s = record { sequencer = s; answer = said done }
