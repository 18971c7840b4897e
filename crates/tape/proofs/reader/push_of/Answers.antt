use Rattle.tape.specs.Tape.{push_of}
use Rattle.tape.proofs.reader.push_of.Goals as goal

pub returns : goal.returns
unfolding push_of
returns c = cc
