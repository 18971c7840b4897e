-- A search of an array's first events for a number. Assumes nothing.
use Rattle.std.specs.Prelude.{ℕ, ◌<◌, ◌||◌, Bool, ◌≡◌, refl, List, min, eqb, length, take}
use Rattle.std.specs.List.{list_any}
use Rattle.std.proofs.Common.{ap, ◌∙◌, sym, arith}
use Rattle.std.proofs.Math.Decide.{dec_lt}
use Rattle.std.proofs.lemmas.List.{take_all}
use Rattle.std.proofs.lemmas.List.Recursion.{same_from_clauses}
use Rattle.event.specs.declared.Event.{Event}
use Rattle.event.specs.Events.{number_of}
use Rattle.ledger.specs.Lists.{has}

pub any-has : (k : ℕ) (xs : List Event) → list_any (λ (e : Event). eqb (number_of e) k) xs ≡ has k xs
any-has k xs = same_from_clauses (list_any (λ (e : Event). eqb (number_of e) k)) (has k) (λ (e : Event) (b : Bool). eqb (number_of e) k || b) refl (λ _ _. refl) (λ _ _. refl) xs

-- an array of 256 has no more
pub first-ones : (n len : ℕ) (xs : List Event) → length xs ≡ 256 → n ≡ min len 256 → take n xs ≡ take len xs
first-ones n len xs z e = go (dec_lt 256 len)
  where
    go : Dec (256 < len) → take n xs ≡ take len xs
    go (yes h) = take_all n xs (omega arith) ∙ sym (take_all len xs (omega arith))
    go (no h) = let q : n ≡ len = omega arith in ap (λ (m : ℕ). take m xs) q
