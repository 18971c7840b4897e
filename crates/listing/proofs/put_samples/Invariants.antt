-- `listing::put_samples` meets its contract: the samples are put piece by piece. Assumes nothing.
use Rattle.listing.specs.Putting.{Pieces}
use Rattle.listing.specs.Text.{samples_from}
use Rattle.listing.proofs.put_samples.Given as goal

abbrev pub invariant-loop-i : goal.invariant-loop-i
invariant-loop-i l = Pieces samples_from l.samples l.initial.out 0 l.out l.to l.i
