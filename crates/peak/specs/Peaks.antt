-- Document 02, Paper 8, in plain lists: what a running peak answers.
use Rattle.std.specs.Prelude.{List, [], ◌∷◌, ◌++◌, map, ℕ, ◌-◌, ◌%◌, ◌^◌, max, length, drop, Float}
use Rattle.std.specs.Float.{binary32}
use Rattle.std.specs.Float.Ieee.{to_bits}

-- "Magnitude means the bits without the sign, taken as a whole number". The logic has one NaN; its bits are 7FC00000.
unfoldable pub magnitude : Float → ℕ
magnitude x = to_bits binary32 x % 2 ^ 31

-- "With nothing fed the answer is 0."
unfoldable pub greatest : List ℕ → ℕ
greatest [] = 0
greatest (x ∷ l) = max x (greatest l)

-- "the last w samples, or .. all if fewer were fed"
abbrev pub last_of : ℕ → List ℕ → List ℕ
last_of w l = drop (length l - w) l

-- "Feed it samples, one or a lent run"
pub data Feed : Type 0 where
  one : Float → Feed
  run : List Float → Feed

-- all samples fed, the oldest first
unfoldable pub history : List Feed → List Float
history [] = []
history (one x ∷ fs) = x ∷ history fs
history (run xs ∷ fs) = xs ++ history fs

-- "it answers the greatest magnitude among the last w samples"
abbrev pub peak_of : ℕ → List Feed → ℕ
peak_of w fs = greatest (last_of w (map magnitude (history fs)))
