-- Document 02, Paper 13: the arrangement as a tape, its records' bytes by the writer of Paper 6.
use Rattle.std.specs.Prelude.{ℕ, zero, suc, ◌+◌, ◌*◌, List, [], ◌++◌}
use Rattle.event.specs.declared.ReplayMode.TheVariants.{All}
use Rattle.tape.specs.declared.reader.Call.TheVariants.{Create, Push}
use Rattle.tape_writer.specs.Writing.{bytes_of}
use Rattle.tape_writer.specs.Claim.{arguments_of}
use Rattle.rises.specs.Arrangement.{kth_push}

-- "record 00 with one channel, All, first number 1"
abbrev pub creation_bytes : List ℕ
creation_bytes = bytes_of (arguments_of 0 (Create 1 All 1))

-- "then n pushes 01, the k-th with .."
abbrev pub kth_bytes : (n k : ℕ) → List ℕ
kth_bytes n k = bytes_of (arguments_of 1 (Push (kth_push n k)))

-- f of them, from the k-th on
unfoldable pub records_from : (n k f : ℕ) → List ℕ
records_from n k zero = []
records_from n k (suc f) = kth_bytes n k ++ records_from n (suc k) f

unfoldable pub tape_of : (n : ℕ) → List ℕ
unfolding records_from
tape_of n = creation_bytes ++ records_from n 1 n

-- 11 bytes, and 43 for each push
abbrev pub size_of_tape : (n : ℕ) → ℕ
size_of_tape n = 11 + 43 * n
