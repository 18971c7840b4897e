use mathlib.Core.Path.{◌∙◌}
use Rattle.argument_records.proofs.Laid.{record_laid}
use borrow.Author.Rules.{rules}
use Rattle.argument_records.proofs.put.Goals as goal

pub returns : goal.returns
returns c = c.put_fields.ensures.lent ∙ record_laid _ _ _ _ c.blank-out.ensures c.widths-widths.ensures c.numbers-numbers.ensures
