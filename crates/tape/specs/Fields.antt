-- Little-endian fields: one definition and one law for every width. Assumes nothing.
use Rattle.std.specs.Prelude.{◌≡◌, ℕ, zero, suc, ◌+◌, ◌-◌, ◌*◌, ◌^◌, ◌<◌, ◌≤◌, List, [], ◌∷◌, length, take, drop, slice_index, refl}
use Rattle.std.proofs.Common.{sym, ap, ◌∙◌, subst, le_of_suc-le-suc, arith, lit<}

-- the number whose bytes these are, the lowest first
unfoldable pub from_little_endian : List ℕ → ℕ
from_little_endian [] = 0
from_little_endian (b ∷ bs) = b + 256 * from_little_endian bs

-- the number of w bytes from place at on; bytes that are not there count as 0
unfoldable pub field : List ℕ → ℕ → ℕ → ℕ
field bs at w = from_little_endian (take w (drop at bs))

-- ---- laws
abbrev pub Bytes : List ℕ → Type 0
Bytes xs = (i : ℕ) → slice_index xs i < 2 ^ 8

pub bytes_tail : (b : ℕ) (bs : List ℕ) → Bytes (b ∷ bs) → Bytes bs
bytes_tail b bs h i = h (suc i)

pub bytes_drop : (n : ℕ) (xs : List ℕ) → Bytes xs → Bytes (drop n xs)
bytes_drop zero xs h = h
bytes_drop (suc n) [] h = h
bytes_drop (suc n) (x ∷ xs) h = bytes_drop n xs (bytes_tail x xs h)

pub bytes_take : (n : ℕ) (xs : List ℕ) → Bytes xs → Bytes (take n xs)
bytes_take zero xs h i = lit< tt
bytes_take (suc n) [] h i = lit< tt
bytes_take (suc n) (x ∷ xs) h zero = h zero
bytes_take (suc n) (x ∷ xs) h (suc i) = bytes_take n xs (bytes_tail x xs h) i

-- k bytes are below 256 ^ k
pub le_below : (k : ℕ) (xs : List ℕ) → Bytes xs → length xs ≤ k → from_little_endian xs < 256 ^ k
unfolding from_little_endian
le_below zero [] h l = lit< tt
le_below zero (b ∷ bs) h l = absurd (omega arith)
le_below (suc k) [] h l = let p = le_below k [] h (omega arith) in omega arith
le_below (suc k) (b ∷ bs) h l = let q = h zero in let p = le_below k bs (bytes_tail b bs h) (le_of_suc-le-suc l) in omega arith

-- no part of w bytes is longer than w
pub part-short : (i w : ℕ) (xs : List ℕ) → length (drop i (take w xs)) ≤ w
part-short zero zero xs = omega arith
part-short zero (suc w) [] = omega arith
part-short zero (suc w) (x ∷ xs) = let p = part-short zero w xs in omega arith
part-short (suc i) zero xs = omega arith
part-short (suc i) (suc w) [] = omega arith
part-short (suc i) (suc w) (x ∷ xs) = let p = part-short i w xs in omega arith

pub field_below : (k : ℕ) (bs : List ℕ) (at w : ℕ) → Bytes bs → w ≤ k → field bs at w < 256 ^ k
unfolding field
field_below k bs at w h l =
    let p : length (take w (drop at bs)) ≤ w = part-short zero w (drop at bs) in
    le_below k (take w (drop at bs)) (bytes_take w (drop at bs) (bytes_drop at bs h)) (omega arith)

-- a field past the end is 0
pub field_past : (bs : List ℕ) (at w : ℕ) → length bs ≤ at → field bs at w ≡ 0
unfolding field from_little_endian
field_past [] zero zero h = refl
field_past [] zero (suc w) h = refl
field_past [] (suc at) zero h = refl
field_past [] (suc at) (suc w) h = refl
field_past (b ∷ bs) zero w h = absurd (omega arith)
field_past (b ∷ bs) (suc at) w h = field_past bs at w (le_of_suc-le-suc h)

-- ---- a field's bytes, one by one from the highest: the law of every width
pub none_yet : (w : ℕ) (xs : List ℕ) → 0 ≡ from_little_endian (drop w (take w xs))
unfolding from_little_endian
none_yet zero xs = refl
none_yet (suc w) [] = refl
none_yet (suc w) (x ∷ xs) = none_yet w xs

swap : (x y : ℕ) → y * 256 + x ≡ x + 256 * y
swap x y = omega arith

pub one_more : (w : ℕ) (xs : List ℕ) (j : ℕ) → j < w → from_little_endian (drop (suc j) (take w xs)) * 256 + slice_index xs j ≡ from_little_endian (drop j (take w xs))
unfolding from_little_endian
one_more zero xs j h = absurd (omega arith)
one_more (suc w) [] zero h = refl
one_more (suc w) [] (suc j) h = refl
one_more (suc w) (x ∷ xs) zero h = swap x (from_little_endian (take w xs))
one_more (suc w) (x ∷ xs) (suc j) h = one_more w xs j (le_of_suc-le-suc h)

pub part-below : (w : ℕ) (xs : List ℕ) → Bytes xs → w ≤ 8 → (i : ℕ) → from_little_endian (drop i (take w xs)) < 2 ^ 64
part-below w xs h l i = le_below 8 (drop i (take w xs)) (bytes_drop i (take w xs) (bytes_take w xs h)) (let p = part-short i w xs in omega arith)

-- one step of a loop that reads from the highest byte down
pub next-byte : (w : ℕ) (bs : List ℕ) (i n b : ℕ) → 0 < i → i ≤ w → n ≡ from_little_endian (drop i (take w bs)) → b ≡ slice_index bs (i - 1) → n * 256 + b ≡ from_little_endian (drop (i - 1) (take w bs))
next-byte w bs zero n b h l p q = absurd (omega arith)
next-byte w bs (suc j) n b h l p q =
    let e : suc j - 1 ≡ j = omega arith in
    subst (λ (k : ℕ). n * 256 + b ≡ from_little_endian (drop k (take w bs))) (sym e)
    (ap (λ (k : ℕ). n * 256 + k) (q ∙ ap (λ (k : ℕ). slice_index bs k) e) ∙ ap (λ (m : ℕ). m * 256 + slice_index bs j) p ∙ one_more w bs j l)

pub next_fits : (w : ℕ) (bs : List ℕ) (i n : ℕ) → Bytes bs → w ≤ 8 → 0 < i → i ≤ w → n ≡ from_little_endian (drop i (take w bs)) → n * 256 + slice_index bs (i - 1) < 2 ^ 64
next_fits w bs i n h e o l p = subst (λ (k : ℕ). k < 2 ^ 64) (sym (next-byte w bs i n (slice_index bs (i - 1)) o l p refl)) (part-below w bs h e (i - 1))
