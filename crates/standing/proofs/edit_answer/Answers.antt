use mathlib.Core.Path.{ap}
use Rattle.sequencer.specs.declared.Outcome.{Outcome}
use Rattle.standing.specs.Standings.{edit_answer}
use Rattle.standing.proofs.edit_answer.Goals as goal

pub returns-then-relative : goal.returns-then-relative
unfolding edit_answer
returns-then-relative c = rw c.if-relative.true (ap (λ (o : Outcome). o.answer) c.edit_relative-o.ensures)

pub returns : goal.returns
unfolding edit_answer
returns c = rw c.if-relative.false (ap (λ (o : Outcome). o.answer) c.edit-o.ensures)
