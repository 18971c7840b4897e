-- A record is read from its first 47 bytes: what a program that holds a part of the tape reads is what stands on the whole tape. Assumes nothing.
use Rattle.std.specs.Prelude.{◌≡◌, ℕ, zero, suc, ◌+◌, ◌<◌, ◌≤◌, max, Bool, true, false, List, [], ◌∷◌, length, take, drop, nat_lt, slice_index, refl}
use Rattle.std.proofs.Common.{sym, arith, ltb-true, ltb-false, lt-ltb, le-ltb, lit<, lit≤, length-take, get_or-take, take-take}
use Rattle.std.proofs.Math.Path.{ap}
use Rattle.tape.specs.Fields.{field, from_little_endian}
use Rattle.tape.specs.declared.reader.Cursor.{Cursor}
use Rattle.tape.specs.Tape.{kind_of, sizes, size_of, unknown, source_of, push_of, edit_of, call_of, record_of, read_at}

-- ---- no record is longer than 47 bytes
unfoldable top : List ℕ → ℕ
top [] = 0
top (x ∷ xs) = max x (top xs)

below_top : (xs : List ℕ) (k : ℕ) → slice_index xs k ≤ top xs
unfolding top
below_top [] k = omega arith
below_top (x ∷ xs) zero = omega arith
below_top (x ∷ xs) (suc k) = let p = below_top xs k in omega arith

pub size_most : (kind : ℕ) → size_of kind ≤ 47
unfolding top size_of sizes
size_most kind = below_top sizes kind

-- ---- the first n bytes, n being 47 or more
part-take : (n at w : ℕ) (bs : List ℕ) → at + w ≤ n → take w (drop at (take n bs)) ≡ take w (drop at bs)
part-take n zero w bs h = take-take w n bs (omega arith)
part-take zero (suc at) w bs h = absurd (omega arith)
part-take (suc n) (suc at) w [] h = refl
part-take (suc n) (suc at) w (b ∷ bs) h = part-take n at w bs (omega arith)

module _ (n : ℕ) (h : 47 ≤ n) (bs : List ℕ) where
  byte : (i : ℕ) → i < 47 → slice_index (take n bs) i ≡ slice_index bs i
  byte i b = get_or-take n bs i 0 (omega arith)

  part : (at w : ℕ) → at + w ≤ 47 → field (take n bs) at w ≡ field bs at w
  unfolding field
  part at w b = ap from_little_endian (part-take n at w bs (omega arith))

  too_short : (s : ℕ) → s ≤ 47 → nat_lt (length (take n bs)) s ≡ nat_lt (length bs) s
  too_short s b = go (nat_lt (length bs) s) refl
    where
      go : (t : Bool) → nat_lt (length bs) s ≡ t → nat_lt (length (take n bs)) s ≡ t
      go true e = lt-ltb (length (take n bs)) s (omega (arith, length-take n bs, ltb-true (length bs) s e))
      go false e = le-ltb (length (take n bs)) s (omega (arith, length-take n bs, ltb-false (length bs) s e))

  unknown-same : (first : Bool) → unknown first (take n bs) ≡ unknown first bs
  unfolding unknown
  unknown-same true = simp (byte 0 (lit< tt), byte 2 (lit< tt))
  unknown-same false = simp (byte 0 (lit< tt), byte 33 (lit< tt), byte 34 (lit< tt))

  source_same : source_of (take n bs) ≡ source_of bs
  unfolding source_of
  source_same = simp (byte 34 (lit< tt), part 35 4 (lit≤ tt), part 39 4 (lit≤ tt))

  push-same : push_of (take n bs) ≡ push_of bs
  unfolding push_of
  push-same = simp (part 1 8 (lit≤ tt), part 9 8 (lit≤ tt), part 17 8 (lit≤ tt), part 25 8 (lit≤ tt), byte 33 (lit< tt), source_same, byte 0 (lit< tt), part 43 4 (lit≤ tt))

  edit-same : edit_of (take n bs) ≡ edit_of bs
  unfolding edit_of
  edit-same = simp (part 1 8 (lit≤ tt), part 9 8 (lit≤ tt), part 17 8 (lit≤ tt))

  call_same : call_of (take n bs) ≡ call_of bs
  unfolding call_of
  call_same = simp (byte 0 (lit< tt), byte 1 (lit< tt), byte 2 (lit< tt), part 1 8 (lit≤ tt), part 3 8 (lit≤ tt), push-same, edit-same)

-- ---- the record that begins the list, by its first n bytes
pub first_of_lem : (n : ℕ) → 47 ≤ n → (c : Cursor) (bs : List ℕ) → record_of c (take n bs) ≡ record_of c bs
unfolding record_of
first_of_lem n h c bs = simp (unknown-same n h bs c.first, byte n h bs 0 (lit< tt), too_short n h bs (size_of (kind_of bs)) (size_most (kind_of bs)), call_same n h bs)

pub first-47 : (c : Cursor) (bs : List ℕ) → record_of c (take 47 bs) ≡ record_of c bs
first-47 = first_of_lem 47 (lit≤ tt)

-- ---- the record at a cursor, by n bytes from there
pub window_of : (n : ℕ) → 47 ≤ n → (tape : List ℕ) (c : Cursor) → c.at < length tape → read_at tape c ≡ record_of c (take n (drop c.at tape))
unfolding read_at
window_of n h tape c b = simp (lt-ltb _ _ b) (sym (first_of_lem n h c (drop c.at tape)))

pub window : (tape : List ℕ) (c : Cursor) → c.at < length tape → read_at tape c ≡ record_of c (take 47 (drop c.at tape))
window = window_of 47 (lit≤ tt)
