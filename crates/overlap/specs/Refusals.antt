-- Document 02, Paper 4: the number of the refusal.
use Rattle.std.specs.Prelude.{ℕ}
use Rattle.overlap.specs.declared.Refusal.{Refusal}
use Rattle.overlap.specs.declared.Refusal.TheVariants.{Improper}

abbrev pub number_of : Refusal → ℕ
number_of Improper = 17
