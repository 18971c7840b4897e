use Rattle.argument_records.specs.Records.{arguments_of}
use borrow.Author.Rules.{rules}
use Rattle.argument_records.proofs.get.Goals as goal

pub returns : goal.returns
unfolding arguments_of
returns c =
    simp (
      c.word64.ensures,
      c.word64-2.ensures,
      c.word64-3.ensures,
      c.word64-4.ensures,
      c.word64-5.ensures,
      c.word64-6.ensures,
      c.word64-7.ensures,
      c.f64_at.ensures,
      c.f64_at-2.ensures,
      c.f64_at-3.ensures,
      c.f64_at-4.ensures,
      c.f64_at-5.ensures,
      c.f32_at.ensures,
      c.f32_at-2.ensures,
      c.f32_at-3.ensures,
      c.word32.ensures,
      c.word32-2.ensures,
    )
