-- `sequencer::creation::fresh` meets its contract. Assumes nothing.
use lib.Ieee.{of_bits, round, neg, div}
use Rattle.floats.specs.Arithmetic.{whole}
use Rattle.sequencer.specs.Creation.{fresh_engine}
use Rattle.sequencer.proofs.creation.fresh.Goals as goal

pub returns : goal.returns
unfolding fresh_engine whole of_bits round neg div
returns c = rw (c.new.ensures, c.new-2.ensures)
