-- `listing::spaced_length` meets its contract: the loop's invariant is `Measured`. Assumes nothing.
use Rattle.listing.proofs.Lines.{Measured}
use Rattle.listing.proofs.spaced_length.Given as goal

abbrev pub invariant-loop-n : goal.invariant-loop-n
invariant-loop-n l = Measured l.numbers l.total l.n-index
