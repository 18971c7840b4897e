use Rattle.std.proofs.Common.{sym, ◌∙◌, ne_eqb}
use Rattle.tape.specs.Tape.{source_of}
use Rattle.tape.proofs.reader.source_of.Goals as goal

pub returns-in-0 : goal.returns-in-0
unfolding source_of
returns-in-0 c = simp (sym c.byte.ensures ∙ c.in-0.is, c.f32_at.ensures)

pub returns-in-1 : goal.returns-in-1
unfolding source_of
returns-in-1 c = simp (sym c.byte.ensures ∙ c.in-1.is, c.f32_at-in-1.ensures, c.f32_at-in-1-2.ensures)

pub returns-in_default : goal.returns-in_default
unfolding source_of
returns-in_default c = simp (sym c.byte.ensures, ne_eqb _ _ c.in_default.in_default-own.rest.1, ne_eqb _ _ c.in_default.in_default-own.rest.0.1, c.word32.ensures, c.word32-in_default.ensures)
