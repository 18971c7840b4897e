-- `sequencer::Sequencer::change_rate` meets its contract. Assumes nothing.
use lib.Ieee.{of_bits, neg, div}
use Rattle.sequencer.specs.Resets.{re_rated}
use Rattle.sequencer.proofs.Sequencer.change_rate.Goals as goal

pub returns-then-self-rate : goal.returns-then-self-rate
unfolding re_rated
returns-then-self-rate c = rw c.if-self-rate.true

pub returns : goal.returns
unfolding re_rated of_bits neg div
returns c = rw (c.if-self-rate.false, c.all_to_ready-s.ensures)
