-- Whether a refusal applies, and its number. Assumes nothing.
use Rattle.std.specs.Prelude.{◌≡◌, true, false, ◌==◌, is_some}
use Rattle.std.specs.declared.option.Option.{Option}
use Rattle.std.specs.declared.option.Option.TheVariants.{Some, None}
use Rattle.std.proofs.Common.{refl, sym, true≢false, ne_eqb, arith}
use Rattle.refusals.specs.declared.Refusal.{Refusal}
use Rattle.refusals.specs.Numbers.{number_of, refusal_number, number_is_positive}

pub none-applies : (o : Option Refusal) → is_some o ≡ false → (refusal_number o == 0) ≡ true
none-applies None h = refl
none-applies (Some r) h = absurd (true≢false h)

pub one-applies : (o : Option Refusal) → is_some o ≡ true → (refusal_number o == 0) ≡ false
one-applies None h = absurd (true≢false (sym h))
one-applies (Some r) h = let p = number_is_positive r in ne_eqb (number_of r) 0 (λ z. omega arith)
