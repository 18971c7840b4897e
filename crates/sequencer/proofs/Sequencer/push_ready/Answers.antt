-- `sequencer::Sequencer::push_ready` meets its contract.
use Rattle.std.proofs.Common.{ap}
use Rattle.sequencer.specs.Moves.{with_heap, pushed_ready}
use Rattle.sequencer.proofs.Sequencer.push_ready.Goals as goal

pub returns : goal.returns
unfolding pushed_ready
returns c = ap (with_heap c.args.self) c.push-heap.ensures
