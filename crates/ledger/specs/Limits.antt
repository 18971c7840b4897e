-- Each call keeps the limits: at most 256 events are held, at most 256 edits are stored, one per number, and the next number is at most 2 ^ 64. Assumes nothing.
use Rattle.std.specs.Prelude.{ℕ, ◌+◌, ◌^◌, ◌≤◌, List, [], ◌∷◌, length, Float}
use Rattle.event.specs.declared.StoredEdit.{StoredEdit}
use Rattle.ledger.specs.Ledger.{Ledger}
use Rattle.ledger.specs.Conservation.{held_sum}
use Rattle.ledger.specs.Partition.{is}

abbrev pub one : Float → ℕ → ℕ
one x n = 1

-- a weight for each stored edit, by its number
abbrev pub edit_sum : (ℕ → ℕ) → List StoredEdit → ℕ
edit_sum u [] = 0
edit_sum u (x ∷ l) = u x.id.0 + edit_sum u l

-- how many edits a number has
abbrev pub edits_of : ℕ → List StoredEdit → ℕ
edits_of k l = edit_sum (is k) l

pub record Limits (l : Ledger) : Type 0 where
  pub events : held_sum one l ≤ 256
  pub edits : length l.edits ≤ 256
  pub once : (k : ℕ) → edits_of k l.edits ≤ 1
  pub next : l.next ≤ 2 ^ 64
