-- Document 02, Paper 11: the number of each refusal.
use Rattle.std.specs.Prelude.{ℕ, Result, Ok, Err}
use Rattle.lodge.specs.declared.Refusal.{Refusal}
use Rattle.lodge.specs.declared.Refusal.TheVariants.{Improper, TooLong}

abbrev pub number_of : Refusal → ℕ
number_of Improper = 21
number_of TooLong = 22

-- a minute, or a refusal
abbrev pub Answer : Type 0
Answer = Result ℕ Refusal

-- 0 where a minute is answered
abbrev pub refusal_number : Answer → ℕ
refusal_number (Ok t) = 0
refusal_number (Err r) = number_of r
