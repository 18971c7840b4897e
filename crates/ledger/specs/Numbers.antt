-- The numbers from one on.
use Rattle.std.specs.Prelude.{ℕ, zero, suc, List, [], ◌∷◌}

-- the n numbers a, a + 1, ..
abbrev pub up_from : (a n : ℕ) → List ℕ
up_from a zero = []
up_from a (suc n) = a ∷ up_from (suc a) n
