-- The number of each of the desk's refusals, as document 01 gives it, and 0 where none applies.
use Rattle.std.specs.Prelude.{◌≡◌, ℕ, ◌<◌}
use Rattle.std.proofs.Common.{sym, ap, ◌∙◌, subst, arith}
use Rattle.std.specs.declared.option.Option.{Option}
use Rattle.std.specs.declared.option.Option.TheVariants.{Some, None}
use Rattle.refusals.specs.Numbers as Engines
use Rattle.realseq.specs.declared.Refusal.{Refusal}
use Rattle.realseq.specs.declared.Refusal.TheVariants.{Engine, QueueFull}

abbrev pub number_of : Refusal → ℕ
number_of (Engine r) = Engines.number_of r
number_of QueueFull = 13

abbrev pub refusal_number : Option Refusal → ℕ
refusal_number None = 0
refusal_number (Some r) = number_of r

number_is_positive : (r : Refusal) → 0 < number_of r
number_is_positive (Engine r) = Engines.number_is_positive r
number_is_positive QueueFull = omega arith

-- what an answer says of the number n that its definition gives
pub refused_is : (o : Option Refusal) (r : Refusal) (n : ℕ) → refusal_number o ≡ n → o ≡ Some r → (number_of r ≡ n) × (0 < n)
refused_is o r n h q = let e : number_of r ≡ n = sym (ap refusal_number q) ∙ h in (e, subst (λ (k : ℕ). 0 < k) e (number_is_positive r))

pub taken_is : (o : Option Refusal) (n : ℕ) → refusal_number o ≡ n → o ≡ None → n ≡ 0
taken_is o n h q = sym h ∙ ap refusal_number q
