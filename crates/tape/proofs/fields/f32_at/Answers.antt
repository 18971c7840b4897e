use Rattle.std.proofs.Common.{ap, ◌∙◌}
use lib.Ieee.{of_bits, binary32}
use Rattle.tape.proofs.fields.f32_at.Goals as goal

pub returns : goal.returns
returns c = c.f32_from_bits.ensures ∙ ap (of_bits binary32) c.word32.ensures
