-- Document 01's listing: the line of a record and the line of a channel. Assumes nothing.
use Rattle.std.specs.Prelude.{List, [], ◌∷◌, ◌++◌, cond, ℕ, zero, suc, ◌+◌, ◌/◌, ◌%◌, ltb, Float}
use Rattle.std.specs.Float.{binary32}
use Rattle.std.specs.Float.Ieee.{to_bits}

-- a digit below 16, upper-case
abbrev pub digit : ℕ → ℕ
digit d = cond (ltb d 10) (48 + d) (55 + d)

-- the last k digits of n in base b, the highest first
unfoldable pub digits : ℕ → ℕ → ℕ → List ℕ
digits b zero n = []
digits b (suc k) n = digits b k (n / b) ++ (digit (n % b) ∷ [])

-- how many decimal digits n has; f + 1 is a bound
unfoldable pub places_of : ℕ → ℕ → ℕ
places_of zero n = 1
places_of (suc f) n = cond (ltb n 10) 1 (suc (places_of f (n / 10)))

unfoldable pub decimal : ℕ → List ℕ
decimal n = digits 10 (places_of 20 n) n

-- numbers in decimal, each behind a space
unfoldable pub spaced : List ℕ → List ℕ
spaced [] = []
spaced (n ∷ ns) = (32 ∷ decimal n) ++ spaced ns

-- a kind (two upper-case hexadecimal digits), then numbers
unfoldable pub kind_line : ℕ → List ℕ → List ℕ
kind_line k ns = digits 16 2 k ++ (spaced ns ++ (10 ∷ []))

-- "Each record prints its kind (two upper-case hexadecimal digits), refusal or 0, waiting, sounding, finished, let go"
unfoldable pub counts_line : (kind refusal waiting sounding finished let_go : ℕ) → List ℕ
unfolding kind_line spaced
counts_line k r w s f l = kind_line k (r ∷ w ∷ s ∷ f ∷ l ∷ [])

-- what stands behind a sample: the line's end, or a space and the rest
abbrev pub end_of : List Float → ℕ
end_of [] = 10
end_of (x ∷ xs) = 32

unfoldable pub samples_from : List Float → List ℕ
samples_from [] = []
samples_from (x ∷ xs) = digits 16 8 (to_bits binary32 x) ++ (end_of xs ∷ samples_from xs)

-- "a line per channel of its 1 or n samples' bits (eight such digits each, one space between), any NaN as 7FC00000 (n = 0: empty lines)"
unfoldable pub samples_line : List Float → List ℕ
unfolding samples_from
samples_line [] = 10 ∷ []
samples_line (x ∷ xs) = samples_from (x ∷ xs)
