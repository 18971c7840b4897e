-- A tick or block that begins at clock 0 never passes the limit of refusal 12: at a rate of 1 or more a sample lasts at most 1 second, a block at most 64. Assumes nothing.
use Rattle.std.specs.Prelude.{ℕ, zero, suc, ◌+◌, ◌*◌, ◌^◌, ◌≤◌, ◌<◌, ◌≡◌, refl, Bool, true, false, not, ◌&&◌, ◌||◌, cond, ◌⊎◌, T, ltb, eqb, ℤ, pos, Float}
use Rattle.std.proofs.Common.{sym, ap, ◌∙◌, subst, true≢false, inl, inr, le_trans, le_of_eq, le_of_lt, mul-one, mul-pos, mul-le-mul, mul-le-mul_right, mul_right_comm, le_of_mul-le-mul_right, arith, ltb→lt, eqb→eq}
use Rattle.std.proofs.Math.Dec.{eqb-suc-zero}
use Rattle.std.specs.Float.{nan, inf, fin, Format, binary64}
use Rattle.std.specs.Float.Ieee.{prec, emax, low, up, down, odd, units, round, sum, add, mul, div, lt, le, eq}
use Rattle.std.specs.Float.Ieee.Fits.{down_pos, up_pos, and_l}
use Rattle.std.specs.Float.Ieee.Exact.{HasValue}
use Rattle.std.specs.Float.Ieee.Back.{round_whole}
use Rattle.std.specs.Float.Ieee.Order.{round_mono}
use Rattle.std.specs.Float.Ieee.Scale.{finite}
use Rattle.std.specs.Float.Ieee.Positive.{above, above_of_le}
use Rattle.floats.specs.Arithmetic.{◌+ᵈ◌, ◌×ᵈ◌, ◌÷ᵈ◌, ◌≤ᶠ◌, zeroᶠ, oneᶠ, whole}

-- ---- a value that is finite and not negative

abbrev plain : Float → Bool
plain nan = false
plain (inf s) = false
plain (fin s m e) = not s

odd_plain : (d q k l : ℕ) → T (plain (odd d false q k l))
unfolding odd
odd_plain d zero k l = tt
odd_plain d (suc q) k l = tt

inf_not-le : (y : Float) → T (finite y) → T (le (inf false) y) → ⊥
unfolding le lt eq
inf_not-le nan f h = f
inf_not-le (inf s) f h = f
inf_not-le (fin s m e) f h = h

units_plain : (f : Format) (q k : ℕ) (y : Float) → T (finite y) → T (le (units f false q k) y) → T (plain (units f false q k))
unfolding units
units_plain f q k y g = go (ltb (q * 2 ^ k) (2 ^ (low f + suc (emax f))))
  where
    go : (b : Bool) → T (le (cond b (odd (suc (prec f)) false q k (low f)) (inf false)) y) → T (plain (cond b (odd (suc (prec f)) false q k (low f)) (inf false)))
    go true h = odd_plain (suc (prec f)) q k (low f)
    go false h = absurd (inf_not-le y g h)

round-plain : (f : Format) (a c : ℕ) (y : Float) → T (finite y) → T (le (round f false a c) y) → T (plain (round f false a c))
unfolding round
round-plain f a c y g h = units_plain f _ _ y g h

-- ---- the order, as one of fractions

or_split : (a b : Bool) → T (a || b) → T a ⊎ T b
or_split true b t = inl tt
or_split false b t = inr t

lt_or_eq : (a b : ℕ) → T (ltb a b || (eqb a b && true)) → a ≤ b
lt_or_eq a b t = elim (or_split (ltb a b) (eqb a b && true) t) [ inl u ↦ le_of_lt (ltb→lt a b u) | inr u ↦ le_of_eq (eqb→eq a b (and_l (eqb a b) true u)) ]

cross : (m : ℕ) (e : ℤ) (n : ℕ) (d : ℤ) → T (le (fin false m e) (fin false n d)) → m * up e * down d ≤ n * up d * down e
unfolding le lt eq
cross m e n d h = lt_or_eq (m * up e * down d) (n * up d * down e) h

reduce : (M E K D N : ℕ) → 0 < D → M * D ≤ K * E → K * 1 ≡ N * D → M ≤ N * E
reduce M E K D N p h k =
    let r : K * E ≡ N * E * D = ap (λ (x : ℕ). x * E) (sym (mul-one K) ∙ k) ∙ mul_right_comm N D E in
    le_of_mul-le-mul_right (le_trans h (le_of_eq r)) p

-- m × 2 ^ e is at most the whole number n
at_most : (m : ℕ) (e : ℤ) (y : Float) (n : ℕ) → HasValue y false n 1 → T (le (fin false m e) y) → m * up e ≤ n * down e
at_most m e nan n v h = absurd v
at_most m e (inf s) n v h = absurd v
at_most m e (fin true k d) n v h = absurd (true≢false v.0)
at_most m e (fin false k d) n v h = reduce (m * up e) (down e) (k * up d) (down d) n (down_pos d) (cross m e k d h) v.1

whole_value : (n : ℕ) → n ≤ 2 ^ 53 → HasValue (whole n) false n 1
unfolding whole
whole_value n h = round_whole binary64 false n h

value_finite : (y : Float) (s : Bool) (a c : ℕ) → HasValue y s a c → T (finite y)
value_finite nan s a c v = v
value_finite (inf t) s a c v = v
value_finite (fin t m e) s a c v = tt

-- ---- clock 0 plus a time of at most n seconds

sum_is : (m : ℕ) (e : ℤ) → zeroᶠ +ᵈ fin false m e ≡ round binary64 false (0 * 1 * down e + m * up e * 1) (1 * down e)
unfolding add sum
sum_is m e = refl

end_within : (y : Float) (n : ℕ) → n ≤ 1_000_000_000 → T (plain y) → T (y ≤ᶠ whole n) → T (zeroᶠ +ᵈ y ≤ᶠ whole 1_000_000_000)
unfolding whole
end_within nan n k p h = absurd p
end_within (inf s) n k p h = absurd p
end_within (fin true m e) n k p h = absurd p
end_within (fin false m e) n k p h =
    let a : m * up e ≤ n * down e = at_most m e (whole n) n (whole_value n (omega arith)) h in
    let b : n * down e ≤ 1_000_000_000 * down e = mul-le-mul_right (down e) k in
    let P : 0 < down e = down_pos e in
    subst (λ (x : Float). T (le x (whole 1_000_000_000))) (sym (sum_is m e))
    (round_mono binary64 (0 * 1 * down e + m * up e * 1) (1 * down e) 1_000_000_000 1 (omega (arith, P)) (omega arith) (omega (arith, a, b)))

-- ---- how long a sample lasts: d = 1 / r

div_is : (k : ℕ) (d : ℤ) → 0 < k → oneᶠ ÷ᵈ fin false k d ≡ round binary64 false (1 * 1 * down d) (k * up d * 1)
unfolding div
div_is zero d h = absurd (omega arith)
div_is (suc k) d h = rw (eqb-suc-zero k) refl

abbrev Short : Float → ℕ → Type 0
Short y n = T (plain y) × T (y ≤ᶠ whole n)

round-short : (a c n : ℕ) → n ≤ 2 ^ 53 → 0 < c → a ≤ n * c → Short (round binary64 false a c) n
unfolding whole
round-short a c n k p h =
    let l : T (le (round binary64 false a c) (whole n)) = round_mono binary64 a c n 1 p (omega arith) (omega (arith, h)) in
    (round-plain binary64 a c (whole n) (value_finite (whole n) false n 1 (whole_value n k)) l, l)

sample_short : (r : Float) → T (oneᶠ ≤ᶠ r) → T (r ≤ᶠ whole 1_000_000) → Short (oneᶠ ÷ᵈ r) 1
sample_short r h k = go r (above_of_le oneᶠ r tt h) h k
  where
    go : (r : Float) → T (above r) → T (oneᶠ ≤ᶠ r) → T (r ≤ᶠ whole 1_000_000) → Short (oneᶠ ÷ᵈ r) 1
    go nan a h k = absurd a
    go (inf true) a h k = absurd a
    go (inf false) a h k = absurd (inf_not-le (whole 1_000_000) (value_finite (whole 1_000_000) false 1_000_000 1 (whole_value 1_000_000 (omega arith))) k)
    go (fin true m e) a h k = absurd a
    go (fin false m e) a h k =
        let P : 0 < m * up e = mul-pos (ltb→lt 0 m a) (up_pos e) in
        let c : 1 * up (pos 0) * down e ≤ m * up e * down (pos 0) = cross 1 (pos 0) m e h in
        subst (λ (x : Float). Short x 1) (sym (div_is m e (ltb→lt 0 m a)))
        (round-short (1 * 1 * down e) (m * up e * 1) 1 (omega arith) (omega (arith, P)) (omega (arith, c)))

-- ---- and how long a block does

mul_is : (m : ℕ) (e : ℤ) (n : ℕ) (d : ℤ) → fin false m e ×ᵈ fin false n d ≡ round binary64 false (m * up e * (n * up d)) (down e * down d)
unfolding mul
mul_is m e n d = refl

product : (M E K D N : ℕ) → M ≤ E → K * 1 ≡ N * D → N ≤ 64 → M * K ≤ 64 * (E * D)
product M E K D N a b c =
    let p : M * K ≤ E * (64 * D) = mul-le-mul a (le_trans (le_of_eq (sym (mul-one K) ∙ b)) (mul-le-mul_right D c)) in
    omega (arith, p)

times-short : (x y : Float) (n : ℕ) → n ≤ 64 → Short x 1 → HasValue y false n 1 → Short (x ×ᵈ y) 64
times-short nan y n k h v = absurd h.0
times-short (inf s) y n k h v = absurd h.0
times-short (fin true m e) y n k h v = absurd h.0
times-short (fin false m e) nan n k h v = absurd v
times-short (fin false m e) (inf t) n k h v = absurd v
times-short (fin false m e) (fin true j d) n k h v = absurd (true≢false v.0)
times-short (fin false m e) (fin false j d) n k h v =
    let a : m * up e ≤ 1 * down e = at_most m e (whole 1) 1 (whole_value 1 (omega arith)) h.1 in
    subst (λ (x : Float). Short x 64) (sym (mul_is m e j d))
    (round-short (m * up e * (j * up d)) (down e * down d) 64 (omega arith) (mul-pos (down_pos e) (down_pos d))
    (product (m * up e) (down e) (j * up d) (down d) n (omega (arith, a)) v.1 k))

-- ---- refusal 12 at clock 0

pub tick_within : (r : Float) → T (oneᶠ ≤ᶠ r) → T (r ≤ᶠ whole 1_000_000) → T (zeroᶠ +ᵈ oneᶠ ÷ᵈ r ≤ᶠ whole 1_000_000_000)
tick_within r h k = let s = sample_short r h k in end_within (oneᶠ ÷ᵈ r) 1 (omega arith) s.0 s.1

pub block_within : (r : Float) (n : ℕ) → T (oneᶠ ≤ᶠ r) → T (r ≤ᶠ whole 1_000_000) → n ≤ 64 → T (zeroᶠ +ᵈ (oneᶠ ÷ᵈ r) ×ᵈ whole n ≤ᶠ whole 1_000_000_000)
block_within r n h k l =
    let s = times-short (oneᶠ ÷ᵈ r) (whole n) n l (sample_short r h k) (whole_value n (omega (arith, l))) in
    end_within ((oneᶠ ÷ᵈ r) ×ᵈ whole n) 64 (omega arith) s.0 s.1
