use Rattle.std.proofs.Common.{ap, ◌∙◌}
use lib.Ieee.{of_bits, binary64}
use Rattle.tape.proofs.fields.f64_at.Goals as goal

pub returns : goal.returns
returns c = c.f64_from_bits.ensures ∙ ap (of_bits binary64) c.word64.ensures
