-- `list_moves::edits::seek` meets its contract.
use Rattle.std.proofs.Common.{ℕ, ◌≤◌, get_or}
use Rattle.lists.specs.Search.{seek}
use Rattle.lists.specs.Index.{is_id, no_id}
use Rattle.lists.specs.Rounds.{Seeking}
use Rattle.memory.specs.Rows.{rows}
use Rattle.memory.specs.Edits.{id_of}
use Rattle.list_moves.proofs.edits.seek.Given as goal

abbrev pub invariant-loop-i : goal.invariant-loop-i
invariant-loop-i l = (let xs = rows (λ (p : ℕ). id_of (get_or l.numbers p 0)) l.first 256 in (l.n ≤ 256) × Seeking no_id (is_id (id_of l.id)) l.n xs l.i (seek no_id (is_id (id_of l.id)) l.n xs 0))
