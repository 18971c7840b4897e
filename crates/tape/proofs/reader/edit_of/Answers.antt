use Rattle.tape.specs.Tape.{edit_of}
use Rattle.tape.proofs.reader.edit_of.Goals as goal

pub returns : goal.returns
unfolding edit_of
returns c = cc
