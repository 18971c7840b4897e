-- Fewer than 512 multiples of 1/32768 within -1 and 1 add up in f32 with no rounding: no sum on the way has more than 24 binary digits. Assumes nothing.
use Rattle.std.specs.Prelude.{ℕ, zero, suc, ◌+◌, ◌-◌, ◌*◌, ◌/◌, ◌%◌, ◌^◌, ◌≤◌, ◌<◌, ◌≡◌, refl, Bool, true, false, not, ◌&&◌, cond, List, [], ◌∷◌, T, leb, ltb, eqb, ℤ, pos, negsuc, nat_abs, ◌+ℤ◌, length, Float}
use Rattle.std.proofs.Common.{sym, ap, ◌∙◌, subst, le_trans, le_of_eq, le_of_lt, lt_of_le_of_lt, mul_assoc, mul_comm, mul-le-mul_left, mul-le-mul_right, le_of_mul-le-mul_right, add-zero, div-add-mod', arith, leb→le, le→leb, eqb→eq, ltb→lt, nltb→le, lit<}
use Rattle.std.proofs.Math.Nat.{mul-mod_left, div-le_of_le-mul}
use Rattle.std.proofs.Math.Dec.{eqb_refl}
use Rattle.std.proofs.Math.IntN.{+ℤ_idr, +ℤ_idl, +ℤ_assoc}
use Rattle.std.specs.Float.{nan, inf, fin, binary32}
use Rattle.std.specs.Float.Ieee.{up, down, round, sum}
use Rattle.std.specs.Float.Ieee.Fits.{and_l, and_r, and_i}
use Rattle.std.specs.Float.Ieee.Exact.{HasValue, round_exact}
use Rattle.floats.specs.Arithmetic.{◌+ˢ◌, zeroᶠ}
use Rattle.math.specs.Addition.{add_at}
use Rattle.sums.specs.Multiples.{multiple, multiples, summed, signed, numerator, exact_sum, below_zero, Exactly}
use Rattle.sums.specs.Exact.{rounded, Part}

-- ---- the f32 of z / 32768: below 2 ^ 24 of them it is that number

pub round-exactly : (s : Bool) (n : ℕ) → n < 16777216 → HasValue (round binary32 s n 32768) s n 32768
round-exactly s n h =
    round_exact binary32 s n 32768 n 134 (lit< tt) h
    (lt_of_le_of_lt (le_of_eq (mul_comm n (2 ^ 134))) (lt_of_le_of_lt (mul-le-mul_left (2 ^ 134) (le_of_lt h)) (lit< tt)))
    (sym (mul_assoc n (2 ^ 134) 32768))

rounded-exactly : (z : ℤ) → nat_abs z < 16777216 → Exactly (rounded z) z
unfolding rounded
rounded-exactly z h = round-exactly (below_zero z) (nat_abs z) h

-- ---- z / 32768 and a number of the sign t and the size b / 32768, added

cond_ind : (c : Bool) {A : Type 0} (x y : A) (P : A → Type 0) → (T c → P x) → (T (not c) → P y) → P (cond c x y)
cond_ind true x y P f g = f tt
cond_ind false x y P f g = g tt

at : (s : Bool) (m n : ℕ) → m ≡ n → round binary32 s m 32768 ≡ round binary32 s n 32768
at s m n e = ap (λ (n : ℕ). round binary32 s n 32768) e

sum-rounded : (z : ℤ) (t : Bool) (b : ℕ) → sum binary32 (below_zero z) (nat_abs z) t b 32768 ≡ rounded (z +ℤ signed t b)
unfolding sum rounded
sum-rounded (pos n) false b = refl
sum-rounded (pos n) true zero =
    cond_ind (ltb n 0) (round binary32 true (0 - n) 32768) (round binary32 false (n - 0) 32768) (λ x. x ≡ round binary32 false (n + 0) 32768)
    (λ t. absurd (none (ltb→lt n 0 t))) (λ t. at false (n - 0) (n + 0) (omega arith))
  where
    none : n < 0 → ⊥
    none h = omega arith
sum-rounded (pos n) true (suc b) = go (ltb n (suc b)) (ltb→lt n (suc b))
  where
    go : (c : Bool) → (T c → n < suc b)
        → cond c (round binary32 true (suc b - n) 32768) (round binary32 false (n - suc b) 32768) ≡ rounded (cond c (negsuc (suc b - suc n)) (pos (n - suc b)))
    go true h = at true (suc b - n) (suc (suc b - suc n)) (omega (arith, h tt))
    go false h = refl
sum-rounded (negsuc n) false b = go (ltb b (suc n)) (ltb (suc n) b) (ltb→lt b (suc n)) (nltb→le b (suc n)) (ltb→lt (suc n) b) (nltb→le (suc n) b)
  where
    go : (c d : Bool) → (T c → b < suc n) → (T (not c) → suc n ≤ b) → (T d → suc n < b) → (T (not d) → b ≤ suc n)
        → cond d (round binary32 false (b - suc n) 32768) (round binary32 (true && c) (suc n - b) 32768) ≡ rounded (cond c (negsuc (suc n - suc b)) (pos (b - suc n)))
    go true true h h' k k' = absurd (omega (arith, h tt, k tt))
    go true false h h' k k' = at true (suc n - b) (suc (suc n - suc b)) (omega (arith, h tt))
    go false true h h' k k' = refl
    go false false h h' k k' = at false (suc n - b) (b - suc n) (omega (arith, h' tt, k' tt))
sum-rounded (negsuc n) true zero = at true (suc n + 0) (suc n) (add-zero (suc n)) ∙ ap rounded (sym (+ℤ_idr (negsuc n)))
sum-rounded (negsuc n) true (suc b) = at true (suc n + suc b) (suc (suc (n + b))) (omega arith)

pub part : (x : Float) → T (multiple x) → Part x
unfolding multiple numerator
part nan t = absurd t
part (inf s) t = absurd t
part (fin s m e) t =
    let w = m * up e * 32768 in
    let whole : w % down e ≡ 0 = eqb→eq (w % down e) 0 (and_l (eqb (w % down e) 0) (leb (m * up e) (down e)) t) in
    let cut : m * up e ≤ down e = leb→le (m * up e) (down e) (and_r (eqb (w % down e) 0) (leb (m * up e) (down e)) t) in
    let e1 : w / down e * down e ≡ w = sym (add-zero (w / down e * down e)) ∙ ap (λ (r : ℕ). w / down e * down e + r) (sym whole) ∙ div-add-mod' w (down e) in
    record { sign = s; size = w / down e; small = div-le_of_le-mul (down e) (mul-le-mul_right 32768 cut); value = (refl, sym e1); counted = refl }

-- and the other way
pub multiple_of : (x : Float) (s : Bool) (n : ℕ) → n ≤ 32768 → HasValue x s n 32768 → T (multiple x)
unfolding multiple
multiple_of nan s n h v = v
multiple_of (inf t) s n h v = v
multiple_of (fin t m e) s n h v =
    and_i (eqb (m * up e * 32768 % down e) 0) (leb (m * up e) (down e))
    (subst (λ (k : ℕ). T (eqb k 0)) (sym (ap (λ (k : ℕ). k % down e) v.1 ∙ mul-mod_left n (down e))) (eqb_refl 0))
    (le→leb (m * up e) (down e)
    (le_of_mul-le-mul_right (le_trans (le_of_eq v.1) (le_trans (mul-le-mul_right (down e) h) (le_of_eq (mul_comm 32768 (down e))))) (lit< tt)))

-- ---- the sum

one-added : (z : ℤ) (x : Float) → nat_abs z < 16777216 → T (multiple x) → rounded z +ˢ x ≡ rounded (z +ℤ numerator x)
one-added z x h t =
    let p = part x t in
    add_at binary32 (rounded z) x (below_zero z) p.sign (nat_abs z) p.size 32768 (lit< tt) (rounded-exactly z h) p.value
    ∙ sum-rounded z p.sign p.size ∙ ap (λ (c : ℤ). rounded (z +ℤ c)) (sym p.counted)

size_added : (z w : ℤ) → nat_abs (z +ℤ w) ≤ nat_abs z + nat_abs w
size_added (pos n) (pos m) = omega arith
size_added (pos n) (negsuc m) = cond_ind (ltb n (suc m)) (negsuc (suc m - suc n)) (pos (n - suc m)) (λ z. nat_abs z ≤ n + suc m) (λ t. omega arith) (λ t. omega arith)
size_added (negsuc n) (pos m) = cond_ind (ltb m (suc n)) (negsuc (suc n - suc m)) (pos (m - suc n)) (λ z. nat_abs z ≤ suc n + m) (λ t. omega arith) (λ t. omega arith)
size_added (negsuc n) (negsuc m) = omega arith

size_signed : (s : Bool) (n : ℕ) → nat_abs (signed s n) ≤ n
size_signed false n = omega arith
size_signed true zero = omega arith
size_signed true (suc n) = omega arith

numerator-small : (x : Float) → T (multiple x) → nat_abs (numerator x) ≤ 32768
numerator-small x t =
    let p = part x t in
    subst (λ (z : ℤ). nat_abs z ≤ 32768) (sym p.counted) (le_trans (size_signed p.sign p.size) p.small)

summed-from : (l : List Float) (z : ℤ) → T (multiples l) → nat_abs z + 32768 * length l < 16777216 → summed (rounded z) l ≡ rounded (z +ℤ exact_sum l)
unfolding summed multiples exact_sum
summed-from [] z t h = ap rounded (sym (+ℤ_idr z))
summed-from (x ∷ l) z t h =
    let m : T (multiple x) = and_l (multiple x) (multiples l) t in
    let a = size_added z (numerator x) in
    let b = numerator-small x m in
    ap (λ (y : Float). summed y l) (one-added z x (omega arith) m)
    ∙ summed-from l (z +ℤ numerator x) (and_r (multiple x) (multiples l) t) (omega arith)
    ∙ ap rounded (+ℤ_assoc z (numerator x) (exact_sum l))

sum-small : (l : List Float) → T (multiples l) → nat_abs (exact_sum l) ≤ 32768 * length l
unfolding multiples exact_sum
sum-small [] t = omega arith
sum-small (x ∷ l) t =
    let a = size_added (numerator x) (exact_sum l) in
    let b = numerator-small x (and_l (multiple x) (multiples l) t) in
    let c = sum-small l (and_r (multiple x) (multiples l) t) in
    omega arith

rounded_zero : rounded (pos 0) ≡ zeroᶠ
unfolding rounded round
rounded_zero = refl

-- the bits of the sum are those of the exact sum
pub summed-rounded : (l : List Float) → T (multiples l) → length l < 512 → summed zeroᶠ l ≡ rounded (exact_sum l)
summed-rounded l t h =
    ap (λ (x : Float). summed x l) (sym rounded_zero) ∙ summed-from l (pos 0) t (omega arith) ∙ ap rounded (+ℤ_idl (exact_sum l))

pub summed-exactly : (l : List Float) → T (multiples l) → length l < 512 → Exactly (summed zeroᶠ l) (exact_sum l)
summed-exactly l t h =
    let a = sum-small l t in
    subst (λ (x : Float). Exactly x (exact_sum l)) (sym (summed-rounded l t h)) (rounded-exactly (exact_sum l) (omega arith))
