-- `plain_engine::events` meets its contract.
use Rattle.memory.specs.Memory.{cells_of, event_at}
use Rattle.plain_engine.proofs.Reading.{Filled}
use Rattle.plain_engine.proofs.events.Given as goal

abbrev pub invariant-loop-i : goal.invariant-loop-i
invariant-loop-i l = Filled (event_at (cells_of l.times l.levels l.marks l.numbers)) l.first 256 l.out l.i
