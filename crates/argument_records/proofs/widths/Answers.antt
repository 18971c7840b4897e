use borrow.Author.Rules.{rules}
use mathlib.Core.Path.{refl}
use Rattle.argument_records.specs.Records.{record_widths}
use Rattle.argument_records.proofs.widths.Goals as goal

pub returns : goal.returns
unfolding record_widths
returns c = refl
