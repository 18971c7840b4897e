use Rattle.std.proofs.Common.{◌≡◌, ◌-◌, ◌<◌, ◌≤◌}
use Rattle.lists.specs.Search.{shift}
use Rattle.lists.specs.Edits.{no_edit}
use Rattle.lists.specs.Rounds.{Shifting}
use Rattle.lists.proofs.EditMap.remove.Given as goal

-- from place i on the gap closes as the definition closes it
abbrev pub invariant-loop-i : goal.invariant-loop-i
invariant-loop-i l =
    (l.at ≤ l.i-end) × (l.i-end < 256) × (l.self.len ≡ l.i-end)
    × Shifting no_edit l.i-end l.self.items l.i (shift no_edit (l.i-end - l.at) l.initial.self.items l.at)
