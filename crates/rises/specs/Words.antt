-- Document 02, Paper 13: "A small program takes n in decimal digits, no leading zero, as its one argument"; "anything but such an n is refused".
use Rattle.std.specs.Prelude.{ℕ, ◌+◌, ◌-◌, ◌*◌, Bool, false, cond, ◌&&◌, List, [], ◌∷◌, ◌==◌, nat_le, nat_lt, Option, Some, None}

-- the digits 0 to 9 are the bytes 48 to 57
abbrev pub is_digit : ℕ → Bool
is_digit b = nat_le 48 b && nat_le b 57

-- the number that decimal digits write, behind those that write v; none where another byte stands
unfoldable pub decimal : (v : ℕ) → List ℕ → Option ℕ
decimal v [] = Some v
decimal v (b ∷ l) = let r = decimal (v * 10 + (b - 48)) l in cond (is_digit b) r None

abbrev pub leading_zero : List ℕ → Bool
leading_zero [] = false
leading_zero (b ∷ l) = b == 48

-- "n from 1 to 256"
abbrev pub in_range : Option ℕ → Option ℕ
in_range None = None
in_range (Some n) = cond (nat_lt 0 n && nat_le n 256) (Some n) None

-- such an n; none where the word is refused
unfoldable pub count_of : (word : List ℕ) → Option ℕ
unfolding decimal
count_of word = cond (leading_zero word) None (in_range (decimal 0 word))
