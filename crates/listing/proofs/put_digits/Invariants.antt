-- `listing::put_digits` meets its contract: the digits are put from the last place down. Assumes nothing.
use Rattle.listing.specs.Text.{digits}
use Rattle.listing.proofs.Lines.{Backward}
use Rattle.listing.proofs.put_digits.Given as goal

abbrev pub invariant-loop-i : goal.invariant-loop-i
invariant-loop-i l = Backward l.initial.out l.at l.base (digits l.base l.width l.n) l.out l.i l.rest
