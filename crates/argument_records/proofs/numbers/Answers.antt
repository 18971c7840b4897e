use Rattle.argument_records.specs.Records.{record_numbers}
use borrow.Author.Rules.{rules}
use Rattle.argument_records.proofs.numbers.Goals as goal

pub returns : goal.returns
unfolding record_numbers
returns c =
    simp (
      c.f64_to_bits.ensures,
      c.f64_to_bits-2.ensures,
      c.f64_to_bits-3.ensures,
      c.f64_to_bits-4.ensures,
      c.f64_to_bits-5.ensures,
      c.f32_to_bits.ensures,
      c.f32_to_bits-2.ensures,
      c.f32_to_bits-3.ensures,
    )
