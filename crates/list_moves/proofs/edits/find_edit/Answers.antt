-- `list_moves::edits::find_edit` meets its contract.
use Rattle.std.proofs.Common.{◌∙◌}
use Rattle.memory.specs.Memory.{cells_of}
use Rattle.memory.specs.Edits.{edit-found}
use Rattle.list_moves.proofs.edits.find_edit.Goals as goal

pub returns : goal.returns
returns c = let a = c.args in c.seek.ensures ∙ edit-found (cells_of a.times.now a.levels.now a.marks.now a.numbers.now) a.id.0
