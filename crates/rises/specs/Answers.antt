-- Document 02, Paper 13: what the three calls answer, and what `lay` leaves of the lent buffer.
use Rattle.std.specs.Prelude.{ℕ, Bool, cond, ◌&&◌, List, ◌++◌, length, drop, nat_le, nat_lt, Ok, Err}
use Rattle.rises.specs.declared.Refusal.TheVariants.{Size, Short}
use Rattle.rises.specs.Refusals.{Total, Laid}
use Rattle.rises.specs.Totals.{bound, total_rise}
use Rattle.rises.specs.Arrangement.{fresh_one, arrangement}
use Rattle.rises.specs.Tapes.{tape_of, size_of_tape}

-- "n from 1 to 256"
unfoldable pub is_size : ℕ → Bool
is_size n = nat_lt 0 n && nat_le n 256

-- "both figures"; "anything but such an n is refused as 23"
unfoldable pub greatest_total : (n : ℕ) → Total
unfolding is_size bound
greatest_total n = cond (is_size n) (Ok (bound n)) (Err Size)

unfoldable pub arranged_total : (n : ℕ) → Total
unfolding is_size total_rise fresh_one arrangement
arranged_total n = cond (is_size n) (Ok (total_rise fresh_one (arrangement n))) (Err Size)

-- a buffer that is shorter than the tape is refused as the writer of Paper 6 refuses it, 19
abbrev pub is_short : (n : ℕ) → (buf : List ℕ) → Bool
is_short n buf = nat_lt (length buf) (size_of_tape n)

unfoldable pub lay_answer : (n : ℕ) → (buf : List ℕ) → Laid
unfolding is_size
lay_answer n buf = cond (is_size n) (cond (is_short n buf) (Err Short) (Ok (size_of_tape n))) (Err Size)

-- over the front of the buffer; a refused call leaves it as it is
unfoldable pub tape_laid : (n : ℕ) → (buf : List ℕ) → List ℕ
unfolding is_size tape_of
tape_laid n buf = cond (is_size n) (cond (is_short n buf) buf (tape_of n ++ drop (size_of_tape n) buf)) buf
