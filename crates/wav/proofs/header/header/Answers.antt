use Rattle.std.proofs.Common.{◌∙◌}
use Rattle.wav.proofs.Headers.{header_laid}
use Rattle.wav.proofs.header.header.Goals as goal

pub returns : goal.returns
returns c = c.put_fields.ensures.lent ∙ header_laid _ _ _ _ _ _ _ c.is_large-large.ensures c.blank-out.ensures c.widths-widths.ensures c.numbers-numbers.ensures
