-- A digest of numbers, in 64 bits. It runs.
use Rattle.std.specs.Prelude.{ℕ, ◌+◌, ◌*◌, ◌/◌, ◌%◌, ◌^◌, List, [], ◌∷◌}

-- one more number: the digest turned left by 7 of its 64 bits, and the number added
unfoldable pub mixed : (digest value : ℕ) → ℕ
mixed d v = (d % 2 ^ 57 * 128 + d / 2 ^ 57 + v) % 2 ^ 64

-- numbers in their order
unfoldable pub mixed_all : (digest : ℕ) → List ℕ → ℕ
unfolding mixed
mixed_all d [] = d
mixed_all d (v ∷ vs) = mixed_all (mixed d v) vs
