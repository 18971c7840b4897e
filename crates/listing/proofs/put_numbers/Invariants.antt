-- `listing::put_numbers` meets its contract: the numbers are put piece by piece. Assumes nothing.
use Rattle.listing.specs.Putting.{Pieces}
use Rattle.listing.specs.Text.{spaced}
use Rattle.listing.proofs.put_numbers.Given as goal

abbrev pub invariant-loop-n : goal.invariant-loop-n
invariant-loop-n l = Pieces spaced l.numbers l.initial.out l.at l.out l.to l.n-index
