-- Document 01's numbers and values for the cases of the desk's `Answer`. Every definition of an outcome names its answer by `said`, and the claim reads it back by `answer_of`.
use Rattle.std.specs.Prelude.{◌≡◌, ℕ, refl}
use Rattle.event.specs.declared.Placings.{Placings}
use Rattle.desk.specs.Desk as Desk
use Rattle.desk.specs.Desk.{number, queued, done, rendered, refused}
use Rattle.sequencer.specs.declared.Answer as Engine
use Rattle.sequencer.specs.declared.Answer.TheVariants as Engines
use Rattle.realseq.specs.declared.SequencerBackend.{SequencerBackend}
use Rattle.realseq.specs.declared.Outcome.{Outcome}
use Rattle.realseq.specs.declared.Answer.{Answer}
use Rattle.realseq.specs.declared.Answer.TheVariants.{Number, Queued, Done, Rendered, Refused}

abbrev pub said : Desk.Answer → Answer
said (number k) = Number (record { 0 = k })
said queued = Queued
said done = Done
said (rendered c) = Rendered c
said (refused k) = Refused k

abbrev pub answer_of : Answer → Desk.Answer
answer_of (Number k) = number k.0
answer_of Queued = queued
answer_of Done = done
answer_of (Rendered c) = rendered c
answer_of (Refused k) = refused k

pub read_back : (a : Desk.Answer) → answer_of (said a) ≡ a
read_back (number k) = refl
read_back queued = refl
read_back done = refl
read_back (rendered c) = refl
read_back (refused k) = refl

-- the engine's answer as the desk tells it: not what became of an edit
unfoldable pub as_desk : Engine.Answer → Answer
as_desk (Engines.Number k) = Number k
as_desk Engines.Applied = Done
as_desk Engines.Past = Done
as_desk Engines.Stored = Done
as_desk Engines.Done = Done
as_desk (Engines.Rendered c) = Rendered c
as_desk (Engines.Refused k) = Refused k

abbrev pub accepts : SequencerBackend → Outcome
accepts d = record { backend = d; answer = said done }

abbrev pub renders : Placings → SequencerBackend → Outcome
renders c d = record { backend = d; answer = said (rendered c) }

abbrev pub refuses : SequencerBackend → (number : ℕ) → Outcome
refuses d k = record { backend = d; answer = said (refused k) }
