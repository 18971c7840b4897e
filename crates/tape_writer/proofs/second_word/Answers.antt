-- `tape_writer::second_word` meets its contract. Assumes nothing.
use borrow.Author.Tests.{ne_eqb}
use Rattle.tape_writer.specs.Writing.{source_from}
use Rattle.tape_writer.proofs.second_word.Goals as goal

pub returns-in-0 : goal.returns-in-0
unfolding source_from
returns-in-0 c = simp c.in-0.is

pub returns-in-1 : goal.returns-in-1
unfolding source_from
returns-in-1 c = simp (c.in-1.is, c.f32_to_bits.ensures)

pub returns-in_default : goal.returns-in_default
unfolding source_from
returns-in_default c = simp (ne_eqb _ _ c.in_default.in_default-own.rest.1, ne_eqb _ _ c.in_default.in_default-own.rest.0.1)
