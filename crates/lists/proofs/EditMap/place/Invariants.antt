use Rattle.std.proofs.Common.{◌≤◌}
use Rattle.lists.specs.Search.{seek}
use Rattle.lists.specs.Edits.{is_edit, no_edit}
use Rattle.lists.specs.Rounds.{Seeking}
use Rattle.lists.proofs.EditMap.place.Given as goal

-- from place `at` on the search finds what the definition finds
abbrev pub invariant-loop-at : goal.invariant-loop-at
invariant-loop-at l = (l.self.len ≤ 256) × Seeking no_edit (is_edit l.id) l.self.len l.self.items l.at (seek no_edit (is_edit l.id) l.self.len l.self.items 0)
