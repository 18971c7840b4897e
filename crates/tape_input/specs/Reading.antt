-- What reading may leave. Which bytes come no contract of the system's readers can say; everything else is said here by what it answered and what it left in the part that was lent.
use Rattle.std.specs.Prelude.{ℕ, ◌-◌, ◌≤◌, ◌≡◌, refl, Bool, true, false, cond, List, ◌++◌, ltb, ℤ, pos, negsuc, length, take, drop, Option, None, Some, Result, Ok, Err}
use Rattle.std.specs.Int.Signed.{lt_z}
use Rattle.std.specs.Counts.{clamp_len}
use Rattle.tape_input.specs.declared.Unread.{Unread}

abbrev pub unread : Unread
unread = record {}

-- what came behind the first `have` of so many bytes, by the reader's answer; where there are not so many, nothing is read
unfoldable pub came_of : (room have : ℕ) → (got : ℤ) → Result ℕ Unread
came_of room have got = cond (ltb room have) (Err unread) (cond (lt_z got (pos 0)) (Err unread) (Ok (clamp_len got (room - have))))

-- one read behind the first `have` bytes, which stand as they were
pub record ReadOn (before : List ℕ) (have : ℕ) (after : List ℕ) (r : Result ℕ Unread) : Type 0 where
  pub got : ℤ
  pub bytes : List ℕ
  pub long : length bytes ≡ length before - have
  pub came : r ≡ came_of (length before) have got
  pub lent : after ≡ take have before ++ bytes

-- the next tape, at the front of a buffer, which stands behind it as it was; none where it did not come whole
pub record NextTape (before after : List ℕ) (r : Option ℕ) : Type 0 where
  pub whole : Bool
  pub bytes : List ℕ
  pub most : length bytes ≤ length before
  pub short : length bytes ≤ 65_535
  pub is : r ≡ cond whole (Some (length bytes)) None
  pub lent : after ≡ bytes ++ drop (length bytes) before

-- ---- computed: of 10 bytes 4 are at hand; 3 come, a seventh could not; the read fails; there are not so many
pub cases :
    (came_of 10 4 (pos 3) ≡ Ok 3)
    × (came_of 10 4 (pos 7) ≡ Ok 6)
    × (came_of 10 4 (negsuc 0) ≡ Err unread)
    × (came_of 10 11 (pos 0) ≡ Err unread)
unfolding came_of
cases = (refl, refl, refl, refl)
