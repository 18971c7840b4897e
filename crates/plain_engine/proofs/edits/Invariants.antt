-- `plain_engine::edits` meets its contract.
use Rattle.memory.specs.Memory.{cells_of, edit_at}
use Rattle.plain_engine.proofs.Reading.{Filled}
use Rattle.plain_engine.proofs.edits.Given as goal

abbrev pub invariant-loop-i : goal.invariant-loop-i
invariant-loop-i l = Filled (edit_at (cells_of l.times l.levels l.marks l.numbers)) 1024 256 l.out l.i
