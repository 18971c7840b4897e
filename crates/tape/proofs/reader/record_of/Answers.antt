use Rattle.std.proofs.Common.{sym, ◌∙◌, arith, le-ltb, lt-ltb}
use Rattle.tape.specs.Tape.{record_of}
use Rattle.tape.proofs.reader.record_of.Goals as goal

pub returns-then-is_unknown : goal.returns-then-is_unknown
unfolding record_of
returns-then-is_unknown c = simp (sym c.byte-kind.ensures, sym c.is_unknown.ensures ∙ c.if-is_unknown.true)

pub returns-then-bs-n : goal.returns-then-bs-n
unfolding record_of
returns-then-bs-n c = simp (sym c.byte-kind.ensures, sym c.is_unknown.ensures ∙ c.if-is_unknown.false, sym c.size_of-n.ensures, lt-ltb _ _ c.if-bs-n.true)

pub overflow_add-result : goal.overflow_add-result
overflow_add-result c = omega (arith, c.if-bs-n.false, c.requires)

pub returns : goal.returns
unfolding record_of
returns c = simp (sym c.byte-kind.ensures, sym c.is_unknown.ensures ∙ c.if-is_unknown.false, sym c.size_of-n.ensures, le-ltb _ _ c.if-bs-n.false, sym c.call_of.ensures)
