-- What is read at a place of a file.
use Rattle.std.specs.Prelude.{ℕ, ◌≤◌, ◌≡◌, Bool, List, length}
use Rattle.tape.specs.Tape.{read_at}
use Rattle.tape.specs.declared.reader.Read.{Read}

-- the record at the front of some bytes, no more than 64
pub record Stands (first : Bool) (r : Read) : Type 0 where
  pub bytes : List ℕ
  pub few : length bytes ≤ 64
  pub is : r ≡ read_at bytes (record { at = 0; first = first })
