use Rattle.std.proofs.Common.{ap, ◌∙◌, arith, length-drop, le-ltb, lt-ltb}
use Rattle.tape.proofs.Rests.{rest_is}
use Rattle.tape.specs.Tape.{read_at, record_of}
use Rattle.tape.proofs.reader.Cursor.read.Goals as goal

pub returns-then-tape-self : goal.returns-then-tape-self
unfolding read_at
returns-then-tape-self c = simp (le-ltb _ _ c.if-tape-self.true)

pub record_of-requires : goal.record_of-requires
record_of-requires c = rw (rest_is c.args.tape.now c.args.self.at) (simp length-drop (omega arith))

pub returns : goal.returns
unfolding read_at
returns c = simp (lt-ltb _ _ c.if-tape-self.false) (c.record_of.ensures ∙ ap (record_of c.args.self) (rest_is c.args.tape.now c.args.self.at))
