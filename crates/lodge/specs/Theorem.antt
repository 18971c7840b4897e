-- Every answer is right (`right`). Before that, the branches by which the code comes to its answer. Assumes nothing.
use Rattle.std.specs.Prelude.{◌≡◌, true, ℕ, ◌+◌, ◌-◌, ◌%◌, Some, None, Ok, Err}
use mathlib.Core.List.{List}
use Rattle.lodge.specs.declared.Window.{Window}
use Rattle.lodge.specs.declared.Hours.{Hours}
use Rattle.lodge.specs.declared.Refusal.TheVariants.{Improper, TooLong}
use Rattle.lodge.specs.Refusals.{Answer}
use Rattle.lodge.specs.Hours.{in_use, Proper}
use Rattle.lodge.specs.Search.{orderly, first_from, searched}

-- either something is wrong, or the search was made
pub data Outcome (h : Hours) (m n : ℕ) (a : Answer) : Type 0 where
  refused : (Proper h m n → ⊥) → a ≡ Err Improper → Outcome h m n a
  made : Proper h m n → orderly 0 (in_use h) ≡ true → a ≡ searched (in_use h) m n → Outcome h m n a

-- three ways in which the search ends
pub data Ending (ws : List Window) (m n : ℕ) (a : Answer) : Type 0 where
  now : (t : ℕ) → first_from (m % 10080) n ws ≡ Some t → a ≡ Ok (m - m % 10080 + t) → Ending ws m n a
  then : (t : ℕ) → first_from (m % 10080) n ws ≡ None → first_from 0 n ws ≡ Some t → a ≡ Ok (m - m % 10080 + 10080 + t) → Ending ws m n a
  never : first_from 0 n ws ≡ None → a ≡ Err TooLong → Ending ws m n a
