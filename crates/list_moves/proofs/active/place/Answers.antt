-- `list_moves::active::place` meets its contract.
use Rattle.std.proofs.Common.{◌∙◌}
use Rattle.memory.specs.Memory.{cells_of}
use Rattle.memory.specs.Edits.{sounding_found}
use Rattle.list_moves.proofs.active.place.Goals as goal

pub returns : goal.returns
returns c = let a = c.args in c.seek.ensures ∙ sounding_found (cells_of a.times.now a.levels.now a.marks.now a.numbers.now) a.id.0
