use Rattle.std.proofs.Common.{sym, le-ltb, lt-ltb}
use Rattle.tape.specs.Tape.{unknown_push}
use Rattle.tape.proofs.reader.is_unknown_push.Goals as goal

pub returns-then-byte-gt1 : goal.returns-then-byte-gt1
unfolding unknown_push
returns-then-byte-gt1 c = simp (sym c.byte.ensures, lt-ltb _ _ c.if-byte-gt1.true)

pub returns-else-byte-gt1 : goal.returns-else-byte-gt1
unfolding unknown_push
returns-else-byte-gt1 c = simp (sym c.byte.ensures, le-ltb _ _ c.if-byte-gt1.false, sym c.byte-else-byte-gt1.ensures)
