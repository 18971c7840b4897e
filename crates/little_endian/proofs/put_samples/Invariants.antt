-- `little_endian::put_samples` meets its contract: the samples are put piece by piece, or have no room. Assumes nothing.
use Rattle.listing.specs.Putting.{Pieces}
use Rattle.little_endian.specs.Samples.{bytes_of}
use Rattle.little_endian.proofs.put_samples.Given as goal

abbrev pub invariant-loop-sample : goal.invariant-loop-sample
invariant-loop-sample l = Pieces bytes_of l.samples l.initial.out l.at l.out l.to l.sample-index
