-- `sequencer::Sequencer::pop_ready` meets its contract.
use Rattle.std.proofs.Common.{ap}
use Rattle.sequencer.specs.Moves.{with_heap, popped_ready}
use Rattle.sequencer.proofs.Sequencer.pop_ready.Goals as goal

pub returns : goal.returns
unfolding popped_ready
returns c = ap (with_heap c.args.self) c.pop-heap.ensures
