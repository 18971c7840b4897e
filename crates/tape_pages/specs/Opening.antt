-- What opening a tape leaves. Which samples its pool has no contract of a file can say; how many they are, and where they stand, is said here.
use Rattle.std.specs.Prelude.{ℕ, ◌≤◌, ◌≡◌, List, ◌++◌, Float, Option, None, Some, length, drop}
use Rattle.tape_pages.specs.declared.Opened.{Opened}

-- an open tape with its counts, where there is its file
abbrev pub opened_of : {F : Type 0} → (file : Option F) → (name count : ℕ) → Option (Opened F)
opened_of None name count = None
opened_of (Some file) name count = Some (record { file = file; name = name; count = count })

-- samples stand at the pool's front, and the pool behind them as it was; where the tape is open, they are counted, and there is its file
pub record Opens {F : Type 0} (before after : List Float) (r : Option (Opened F)) : Type 0 where
  pub file : Option F
  pub name : ℕ
  pub samples : List Float
  pub most : length samples ≤ length before
  pub lent : after ≡ samples ++ drop (length samples) before
  pub is : r ≡ opened_of file name (length samples)
