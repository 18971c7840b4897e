-- `plain_engine::index` meets its contract.
use Rattle.memory.specs.Memory.{cells_of, id_at}
use Rattle.plain_engine.proofs.Reading.{Filled}
use Rattle.plain_engine.proofs.index.Given as goal

abbrev pub invariant-loop-i : goal.invariant-loop-i
invariant-loop-i l = Filled (id_at (cells_of l.times l.levels l.marks l.numbers)) 768 256 l.out l.i
