-- `listing::counts_line` meets its contract: it is a kind's line of five numbers. Assumes nothing.
use Rattle.listing.specs.Text.{counts_line}
use borrow.Author.Rules.{rules}
use Rattle.listing.proofs.counts_line.Goals as goal

pub returns : goal.returns
unfolding counts_line
returns c = search rules
