-- The number of each refusal, as documents 01 and 02 give it, and 0 where none applies.
use Rattle.std.specs.Prelude.{◌≡◌, ℕ, ◌<◌}
use Rattle.std.proofs.Common.{sym, ap, ◌∙◌, subst, arith}
use Rattle.std.specs.declared.option.Option.{Option}
use Rattle.std.specs.declared.option.Option.TheVariants.{Some, None}
use Rattle.refusals.specs.declared.Refusal.{Refusal}
use Rattle.refusals.specs.declared.Refusal.TheVariants.{Rate, Times, Fades, Level, Gain, Full, NumbersSpent, EditLimits, NoRoom, OutputLength, BlockSize, Clock}

-- a rate; of a push its times, fades, source and gain, 256 events held, and the last number given; of an edit its limits, and 256 edits stored; an output's length, a block's size, the clock
abbrev pub number_of : Refusal → ℕ
number_of Rate = 2
number_of Times = 3
number_of Fades = 4
number_of Level = 5
number_of Gain = 18
number_of Full = 6
number_of NumbersSpent = 7
number_of EditLimits = 8
number_of NoRoom = 9
number_of OutputLength = 10
number_of BlockSize = 11
number_of Clock = 12

abbrev pub refusal_number : Option Refusal → ℕ
refusal_number None = 0
refusal_number (Some r) = number_of r

pub number_is_positive : (r : Refusal) → 0 < number_of r
number_is_positive Rate = omega arith
number_is_positive Times = omega arith
number_is_positive Fades = omega arith
number_is_positive Level = omega arith
number_is_positive Gain = omega arith
number_is_positive Full = omega arith
number_is_positive NumbersSpent = omega arith
number_is_positive EditLimits = omega arith
number_is_positive NoRoom = omega arith
number_is_positive OutputLength = omega arith
number_is_positive BlockSize = omega arith
number_is_positive Clock = omega arith

-- what an answer says of the number n that its definition gives
pub refused_is : (o : Option Refusal) (r : Refusal) (n : ℕ) → refusal_number o ≡ n → o ≡ Some r → (number_of r ≡ n) × (0 < n)
refused_is o r n h q = let e : number_of r ≡ n = sym (ap refusal_number q) ∙ h in (e, subst (λ (k : ℕ). 0 < k) e (number_is_positive r))

pub taken_is : (o : Option Refusal) (n : ℕ) → refusal_number o ≡ n → o ≡ None → n ≡ 0
taken_is o n h q = sym h ∙ ap refusal_number q
