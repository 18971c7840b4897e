-- `realseq::Answer::from` of an engine's answer meets its contract. Assumes nothing.
use Rattle.realseq.specs.Answers.{as_desk}
use Rattle.realseq.proofs.back.AnswerFromSequencerAnswer.from.Goals as goal

pub returns-in-Number : goal.returns-in-Number
unfolding as_desk
returns-in-Number c = rw c.in-Number.is

pub returns-in-Applied : goal.returns-in-Applied
unfolding as_desk
returns-in-Applied c = rw c.in-Applied.is

pub returns-in-Past : goal.returns-in-Past
unfolding as_desk
returns-in-Past c = rw c.in-Past.is

pub returns-in-Stored : goal.returns-in-Stored
unfolding as_desk
returns-in-Stored c = rw c.in-Stored.is

pub returns-in-Done : goal.returns-in-Done
unfolding as_desk
returns-in-Done c = rw c.in-Done.is

pub returns-in-Rendered : goal.returns-in-Rendered
unfolding as_desk
returns-in-Rendered c = rw c.in-Rendered.is

pub returns-in-Refused : goal.returns-in-Refused
unfolding as_desk
returns-in-Refused c = rw c.in-Refused.is
