-- What the loops over an array do: a search, and the closing of a gap. `z` stands past the array's end.
use Rattle.std.specs.Prelude.{ℕ, zero, suc, Bool, cond, List, slice_index_or, slice_set}
use Rattle.std.specs.declared.option.Option.{Option}
use Rattle.std.specs.declared.option.Option.TheVariants.{Some, None}

-- the place of the first of f elements from place i on that passes the test
unfoldable pub seek : {A : Type 0} → (z : A) → (test : A → Bool) → (f : ℕ) → List A → (i : ℕ) → Option ℕ
seek z test zero xs i = None
seek z test (suc f) xs i = cond (test (slice_index_or xs i z)) (Some i) (seek z test f xs (suc i))

-- each of f elements from place i on gives way to the one behind it
unfoldable pub shift : {A : Type 0} → (z : A) → (f : ℕ) → List A → (i : ℕ) → List A
shift z zero xs i = xs
shift z (suc f) xs i = shift z f (slice_set xs i (slice_index_or xs (suc i) z)) (suc i)
