-- `chakaqel::readers::chakaqel_counts` meets its contract.
use mathlib.Core.Path.{ap}
use Rattle.sequencer.specs.declared.readers.Counts.{Counts}
use Rattle.chakaqel.specs.Entries.{counts_by}
use borrow.Author.Rules.{rules}
use Rattle.chakaqel.proofs.readers.chakaqel_counts.Goals as goal

pub returns : goal.returns
returns c = ap (λ (x : Counts). counts_by x c.args.told.now) c.counts-c.ensures
