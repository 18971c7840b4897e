use Rattle.std.proofs.Common.{◌≤◌}
use Rattle.lists.specs.Search.{seek}
use Rattle.lists.specs.Index.{is_id, no_id}
use Rattle.lists.specs.Rounds.{Seeking}
use Rattle.lists.proofs.ActiveMap.find.Given as goal

-- from place i on the search finds what the definition finds
abbrev pub invariant-loop-i : goal.invariant-loop-i
invariant-loop-i l = (l.self.len ≤ 256) × Seeking no_id (is_id l.id) l.self.len l.self.ids l.i (seek no_id (is_id l.id) l.self.len l.self.ids 0)
