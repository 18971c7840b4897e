-- Document 02, Paper 13: the number of each refusal.
use Rattle.std.specs.Prelude.{ℕ, Result}
use Rattle.rises.specs.declared.Refusal.{Refusal}
use Rattle.rises.specs.declared.Refusal.TheVariants.{Size, Short}

abbrev pub number_of : Refusal → ℕ
number_of Size = 23
number_of Short = 19

-- how many levels n pushes rise in all, or a refusal
abbrev pub Total : Type 0
Total = Result ℕ Refusal

-- the tape's length in bytes, or a refusal
abbrev pub Laid : Type 0
Laid = Result ℕ Refusal
