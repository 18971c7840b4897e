-- `list_moves::edits::close_gap` meets its contract.
use Rattle.std.proofs.Common.{◌-◌, ◌<◌}
use Rattle.lists.specs.Search.{shift}
use Rattle.lists.specs.Edits.{no_edit}
use Rattle.memory.specs.Memory.{cells_of, engine_of}
use Rattle.memory.specs.Laws.{Sized}
use Rattle.list_moves.proofs.Storing.{Closing}
use Rattle.list_moves.proofs.edits.close_gap.Given as goal

abbrev pub invariant-loop-j : goal.invariant-loop-j
invariant-loop-j l = (let s = engine_of (cells_of l.initial.times l.levels l.marks l.initial.numbers) in
    Sized (cells_of l.times l.levels l.marks l.numbers) × (l.m < 256) × Closing s l.m l.j (shift no_edit (l.m - l.at) s.edit_map.items l.at) (engine_of (cells_of l.times l.levels l.marks l.numbers)))
