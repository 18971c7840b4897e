-- The two ends of a phase narrow((x - a) / (b - a)), for all floats with a < b: from b on it is not below 1, and up to a it is not above 0. Overflow, infinities, both zeros and values that no format holds are
-- included; where the phase is a NaN it is neither. What makes it so is one law, that rounding keeps the order of fractions (`lib.Ieee.Order.round_mono`): of the differences, of the quotient and of what it is
-- narrowed to. Assumes nothing.
use Rattle.std.specs.Prelude.{◌≡◌, ℕ, zero, suc, ◌+◌, ◌-◌, ◌*◌, ◌^◌, ◌<◌, ◌≤◌, Bool, true, false, cond, not, ◌&&◌, ◌||◌, T, ◌⊎◌, pos, ◌==◌, nat_lt, refl}
use Rattle.std.proofs.Common.{sym, ap, ◌∙◌, subst, inl, inr, true≢false, le_of_lt, le_of_eq, mul-pos, mul-le-mul_right, le_of_mul-le-mul_right, zero-mul, sub-eq-zero_of_le, eq-zero-or-pos, lt_irrefl, arith, ltb→lt, nltb→le, eqb→eq, pow_pos}
use Rattle.std.proofs.lemmas.Bool.{false≢true}
use Rattle.std.proofs.Math.Arith.{le→nltb}
use lib.Ieee.{Float, nan, inf, fin, Format, binary32, binary64, prec, emax, low, up, down, odd, units, round, sum, add, sub, neg, div, lt, le, eq, below, level}
use Rattle.std.specs.Float.Ieee.Fits.{up_pos, down_pos, round_is, and_l, and_r}
use Rattle.std.specs.Float.Ieee.Bits.{is_true, is_false}
use lib.Ieee.Order.{kept, drop, round_mono}
use Rattle.std.specs.Float.Ieee.Scale.{round_same}
use Rattle.floats.specs.Arithmetic.{zeroᶠ, oneᶠ}
use Rattle.floats.specs.Floats.{narrowed}
use Rattle.floats.specs.Phases.{Signed, Low, gap, Above, High}

odd_signed : (d : ℕ) (s : Bool) (q k l : ℕ) → Signed s (odd d s q k l)
unfolding odd
odd_signed d s zero k l = refl
odd_signed d s (suc q) k l = refl

units_signed : (f : Format) (s : Bool) (q k : ℕ) → Signed s (units f s q k)
unfolding units
units_signed f s q k = go (nat_lt (q * 2 ^ k) (2 ^ (low f + suc (emax f))))
  where
    go : (b : Bool) → Signed s (cond b (odd (suc (prec f)) s q k (low f)) (inf s))
    go true = odd_signed (suc (prec f)) s q k (low f)
    go false = refl

round-signed : (f : Format) (s : Bool) (a b : ℕ) → Signed s (round f s a b)
round-signed f s a b = subst (Signed s) (sym (round_is f s a b)) (units_signed f s (kept (prec f) (a * 2 ^ low f) b) (drop (prec f) (a * 2 ^ low f) b))

-- 0 stays 0
round_zero : (f : Format) (s : Bool) (a b : ℕ) → a ≡ 0 → 0 < b → round f s a b ≡ fin s 0 (pos 0)
unfolding round
round_zero binary32 s a b z h = ap (λ (k : ℕ). round binary32 s k b) z ∙ round_same binary32 s 0 b 0 1 h (pow_pos 0) (zero-mul 1 ∙ sym (zero-mul b))
round_zero binary64 s a b z h = ap (λ (k : ℕ). round binary64 s k b) z ∙ round_same binary64 s 0 b 0 1 h (pow_pos 0) (zero-mul 1 ∙ sym (zero-mul b))

-- ---- comparisons as orders of whole numbers

or_split : (a b : Bool) → T (a || b) → T a ⊎ T b
or_split true b t = inl tt
or_split false b t = inr t

at_most : (a b : ℕ) → T (nat_lt a b || (a == b && true)) → a ≤ b
at_most a b t = elim (or_split (nat_lt a b) (a == b && true) t) [ inl u ↦ le_of_lt (ltb→lt a b u) | inr u ↦ le_of_eq (eqb→eq a b (and_l (a == b) true u)) ]

at_least : (a b : ℕ) → T (nat_lt b a || (a == b && true)) → b ≤ a
at_least a b t = elim (or_split (nat_lt b a) (a == b && true) t) [ inl u ↦ le_of_lt (ltb→lt b a u) | inr u ↦ le_of_eq (sym (eqb→eq a b (and_l (a == b) true u))) ]

above_zero : (n : ℕ) → T (not (n == 0)) → 0 < n
above_zero n h = elim (eq-zero-or-pos n) [ inl z ↦ absurd (subst (λ (k : ℕ). T (not (k == 0))) z h) | inr p ↦ p ]

low_signed : (v : Float) → Signed true v → Low v
low_signed nan h = tt
low_signed (inf s) h = h
low_signed (fin s m e) h = inl h

low_zero : (f : Format) (s : Bool) (a b : ℕ) → a ≡ 0 → 0 < b → Low (round f s a b)
low_zero f s a b z h = subst Low (sym (round_zero f s a b z h)) (inr refl)

low_narrowed : (v : Float) → Low v → Low (narrowed v)
unfolding narrowed
low_narrowed nan h = tt
low_narrowed (inf s) h = h
low_narrowed (fin true m e) h = low_signed (round binary32 true (m * up e) (down e)) (round-signed binary32 true (m * up e) (down e))
low_narrowed (fin false m e) (inl h) = absurd (false≢true h)
low_narrowed (fin false m e) (inr h) = low_zero binary32 false (m * up e) (down e) (ap (λ (k : ℕ). k * up e) h ∙ zero-mul (up e)) (down_pos e)

low_above : (v : Float) → Low v → lt zeroᶠ v ≡ false
unfolding lt
low_above nan h = refl
low_above (inf true) h = refl
low_above (inf false) h = absurd (false≢true h)
low_above (fin true m e) h = refl
low_above (fin false m e) (inl h) = absurd (false≢true h)
low_above (fin false m e) (inr h) =
    let z : m * up e * 1 ≡ 0 = ap (λ (k : ℕ). k * up e * 1) h ∙ ap (λ (k : ℕ). k * 1) (zero-mul (up e)) ∙ zero-mul 1 in
    is_false (nat_lt (0 * up (pos 0) * down e) (m * up e * 1)) (le→nltb (0 * up (pos 0) * down e) (m * up e * 1) (omega arith))

low_quotient : (n d : Float) → Low n → Signed false d → Low (div binary64 n d)
unfolding div
low_quotient nan d h p = tt
low_quotient (inf s) nan h p = absurd p
low_quotient (inf s) (inf t) h p = tt
low_quotient (inf true) (fin false n d) h p = refl
low_quotient (inf true) (fin true n d) h p = absurd (true≢false p)
low_quotient (inf false) (fin t n d) h p = absurd (false≢true h)
low_quotient (fin s m e) nan h p = absurd p
low_quotient (fin s m e) (inf t) h p = inr refl
low_quotient (fin s m e) (fin true n d) h p = absurd (true≢false p)
low_quotient (fin true m e) (fin false n d) h p = go (n == 0) (m == 0)
  where
    go : (a b : Bool) → Low (cond a (cond b nan (inf true)) (round binary64 true (m * up e * down d) (n * up d * down e)))
    go true true = tt
    go true false = refl
    go false b = low_signed (round binary64 true (m * up e * down d) (n * up d * down e)) (round-signed binary64 true (m * up e * down d) (n * up d * down e))
low_quotient (fin false m e) (fin false n d) (inl h) p = absurd (false≢true h)
low_quotient (fin false m e) (fin false n d) (inr h) p = go (n == 0) (above_zero n) (m == 0) (is_true (m == 0) (subst (λ (k : ℕ). T (k == 0)) (sym h) tt))
  where
    none : m * up e * down d ≡ 0
    none = ap (λ (k : ℕ). k * up e * down d) h ∙ ap (λ (k : ℕ). k * down d) (zero-mul (up e)) ∙ zero-mul (down d)

    go : (a : Bool) → (T (not a) → 0 < n) → (b : Bool) → b ≡ true → Low (cond a (cond b nan (inf false)) (round binary64 false (m * up e * down d) (n * up d * down e)))
    go true k true q = tt
    go true k false q = absurd (false≢true q)
    go false k b q = low_zero binary64 false (m * up e * down d) (n * up d * down e) none (mul-pos (mul-pos (k tt) (up_pos d)) (down_pos e))

low_sum : (s : Bool) (X : ℕ) (t : Bool) (A C : ℕ) → 0 < C → T (below s X t A || level s X t A) → Low (sum binary64 s X (not t) A C)
unfolding sum
low_sum false X false A C P h = go (nat_lt X A)
  where
    go : (b : Bool) → Low (cond b (round binary64 true (A - X) C) (round binary64 false (X - A) C))
    go true = low_signed (round binary64 true (A - X) C) (round-signed binary64 true (A - X) C)
    go false = low_zero binary64 false (X - A) C (sub-eq-zero_of_le (at_most X A h)) P
low_sum false X true A C P h =
    let same = eqb→eq X A (and_l (X == A) (X == 0) h) in
    let none = eqb→eq X 0 (and_r (X == A) (X == 0) h) in
    low_zero binary64 false (X + A) C (omega arith) P
low_sum true X false A C P h = low_signed (round binary64 true (X + A) C) (round-signed binary64 true (X + A) C)
low_sum true X true A C P h = go (nat_lt X A) (nat_lt A X) (ltb→lt X A) (nltb→le A X)
  where
    go : (b c : Bool) → (T b → X < A) → (T (not c) → X ≤ A) → Low (cond b (round binary64 false (A - X) C) (round binary64 (true && c) (X - A) C))
    go true c k l = let a = k tt in let b = at_least X A h in absurd (omega arith)
    go false true k l = low_signed (round binary64 true (X - A) C) (round-signed binary64 true (X - A) C)
    go false false k l = low_zero binary64 false (X - A) C (sub-eq-zero_of_le (l tt)) P

low_difference : (x c : Float) → T (le x c) → Low (sub binary64 x c)
unfolding sub add neg le lt eq
low_difference nan c h = absurd h
low_difference (inf true) nan h = absurd h
low_difference (inf true) (inf true) h = tt
low_difference (inf true) (inf false) h = refl
low_difference (inf true) (fin t n d) h = refl
low_difference (inf false) nan h = absurd h
low_difference (inf false) (inf true) h = absurd h
low_difference (inf false) (inf false) h = tt
low_difference (inf false) (fin t n d) h = absurd h
low_difference (fin s m e) nan h = absurd h
low_difference (fin s m e) (inf true) h = absurd h
low_difference (fin s m e) (inf false) h = refl
low_difference (fin s m e) (fin t n d) h = low_sum s (m * up e * down d) t (n * up d * down e) (down e * down d) (mul-pos (down_pos e) (down_pos d)) h

sum-gap : (s : Bool) (A : ℕ) (u : Bool) (X C : ℕ) → Above s A u X → sum binary64 u X (not s) A C ≡ round binary64 false (gap s A u X) C
unfolding sum
sum-gap false A false X C h = ap (λ (b : Bool). cond b (round binary64 true (A - X) C) (round binary64 false (X - A) C)) (is_false (nat_lt X A) (le→nltb X A h))
sum-gap true A false X C h = refl
sum-gap true A true X C h = go (nat_lt X A) (nat_lt A X) (nltb→le X A) (ltb→lt A X)
  where
    go : (b c : Bool) → (T (not b) → A ≤ X) → (T c → A < X) → cond b (round binary64 false (A - X) C) (round binary64 (true && c) (X - A) C) ≡ round binary64 false (A - X) C
    go true c k l = refl
    go false true k l = let a = l tt in absurd (omega arith)
    go false false k l = let a = k tt in ap (λ (z : ℕ). round binary64 false z C) (omega arith)
sum-gap false A true X C h = absurd h

above_of : (s : Bool) (A : ℕ) (u : Bool) (X : ℕ) → T (below s A u X) → Above s A u X
above_of false A false X h = le_of_lt (ltb→lt A X h)
above_of true A false X h = tt
above_of true A true X h = le_of_lt (ltb→lt X A h)
above_of false A true X h = absurd h

signed_difference : (c d : Float) → T (lt c d) → Signed false (sub binary64 d c)
unfolding sub add neg lt
signed_difference nan d h = absurd h
signed_difference (inf true) nan h = absurd h
signed_difference (inf true) (inf true) h = absurd h
signed_difference (inf true) (inf false) h = refl
signed_difference (inf true) (fin t n d) h = refl
signed_difference (inf false) nan h = absurd h
signed_difference (inf false) (inf t) h = absurd h
signed_difference (inf false) (fin t n d) h = absurd h
signed_difference (fin s m e) nan h = absurd h
signed_difference (fin s m e) (inf true) h = absurd h
signed_difference (fin s m e) (inf false) h = refl
signed_difference (fin s m e) (fin t n d) h =
    subst (Signed false) (sym (sum-gap s (m * up e * down d) t (n * up d * down e) (down d * down e) (above_of s (m * up e * down d) t (n * up d * down e) h)))
    (round-signed binary64 false (gap s (m * up e * down d) t (n * up d * down e)) (down d * down e))

-- ---- the end at a: up to it the phase is not above 0
pub not-above_zero : (a b x : Float) → T (lt a b) → T (le x a) → lt zeroᶠ (narrowed (div binary64 (sub binary64 x a) (sub binary64 b a))) ≡ false
not-above_zero a b x h k =
    low_above (narrowed (div binary64 (sub binary64 x a) (sub binary64 b a)))
    (low_narrowed (div binary64 (sub binary64 x a) (sub binary64 b a))
    (low_quotient (sub binary64 x a) (sub binary64 b a) (low_difference x a k) (signed_difference a b h)))

-- ---- from b on

-- the arithmetic of two gaps: a is ±M / E, b is ±p / q, x is ±P / Q
module _ (M E p q P Q : ℕ) where
  both-above : p * Q ≤ P * q → M * q ≤ p * E → 0 < q → (M * Q ≤ P * E) × ((p * E - M * q) * (Q * E) ≤ (P * E - M * Q) * (q * E))
  both-above h k Z =
      let over : M * Q * q ≤ P * E * q = let a = mul-le-mul_right Q k in let b = mul-le-mul_right E h in omega arith in
      let top : M * Q ≤ P * E = le_of_mul-le-mul_right over Z in
      (top, grow (p * E - M * q) (P * E - M * Q) (omega arith) (omega arith))
    where
      grow : (D G : ℕ) → D + M * q ≡ p * E → G + M * Q ≡ P * E → D * (Q * E) ≤ G * (q * E)
      grow D G d g =
          let a : (D + M * q) * (Q * E) ≡ p * E * (Q * E) = ap (λ (z : ℕ). z * (Q * E)) d in
          let b : (G + M * Q) * (q * E) ≡ P * E * (q * E) = ap (λ (z : ℕ). z * (q * E)) g in
          let c : p * Q * (E * E) ≤ P * q * (E * E) = mul-le-mul_right (E * E) h in
          omega arith

  across : p * Q ≤ P * q → (p * E + M * q) * (Q * E) ≤ (P * E + M * Q) * (q * E)
  across h = let c : p * Q * (E * E) ≤ P * q * (E * E) = mul-le-mul_right (E * E) h in omega arith

  to_plus : p * E ≤ M * q → (M * q - p * E) * (Q * E) ≤ (P * E + M * Q) * (q * E)
  to_plus k = grow (M * q - p * E) (omega arith)
    where
      grow : (D : ℕ) → D + p * E ≡ M * q → D * (Q * E) ≤ (P * E + M * Q) * (q * E)
      grow D d = let a : (D + p * E) * (Q * E) ≡ M * q * (Q * E) = ap (λ (z : ℕ). z * (Q * E)) d in omega arith

  both_below : P * q ≤ p * Q → p * E ≤ M * q → 0 < q → (P * E ≤ M * Q) × ((M * q - p * E) * (Q * E) ≤ (M * Q - P * E) * (q * E))
  both_below h k Z =
      let over : P * E * q ≤ M * Q * q = let a = mul-le-mul_right Q k in let b = mul-le-mul_right E h in omega arith in
      let top : P * E ≤ M * Q = le_of_mul-le-mul_right over Z in
      (top, grow (M * q - p * E) (M * Q - P * E) (omega arith) (omega arith))
    where
      grow : (D G : ℕ) → D + p * E ≡ M * q → G + P * E ≡ M * Q → D * (Q * E) ≤ G * (q * E)
      grow D G d g =
          let a : (D + p * E) * (Q * E) ≡ M * q * (Q * E) = ap (λ (z : ℕ). z * (Q * E)) d in
          let b : (G + P * E) * (q * E) ≡ M * Q * (q * E) = ap (λ (z : ℕ). z * (q * E)) g in
          let c : P * q * (E * E) ≤ p * Q * (E * E) = mul-le-mul_right (E * E) h in
          omega arith

no_product : (p q : ℕ) → p * q ≡ 0 → 0 < q → p ≡ 0
no_product p q h Z = elim (eq-zero-or-pos p) [ inl z ↦ z | inr k ↦ absurd (lt_irrefl 0 (subst (λ (n : ℕ). 0 < n) h (mul-pos k Z))) ]

-- where a < b and b is not above x, the gap from a to x is as large as that from a to b
far : (s : Bool) (M E : ℕ) (t : Bool) (p q : ℕ) (u : Bool) (P Q : ℕ) → 0 < q → 0 < Q → T (below s (M * q) t (p * E)) → T (below t (p * Q) u (P * q) || level t (p * Q) u (P * q))
    → Above s (M * Q) u (P * E) × (gap s (M * q) t (p * E) * (Q * E) ≤ gap s (M * Q) u (P * E) * (q * E))
far false M E false p q false P Q z Z l h = both-above M E p q P Q (at_most (p * Q) (P * q) h) (le_of_lt (ltb→lt (M * q) (p * E) l)) z
far true M E false p q false P Q z Z l h = (tt, across M E p q P Q (at_most (p * Q) (P * q) h))
far true M E true p q false P Q z Z l h = (tt, to_plus M E p q P Q (le_of_lt (ltb→lt (p * E) (M * q) l)))
far true M E true p q true P Q z Z l h = both_below M E p q P Q (at_least (p * Q) (P * q) h) (le_of_lt (ltb→lt (p * E) (M * q) l)) z
far false M E false p q true P Q z Z l h =
    let none = no_product p Q (eqb→eq (p * Q) 0 (and_r (p * Q == P * q) (p * Q == 0) h)) Z in
    let k = ltb→lt (M * q) (p * E) l in
    let w : p * E ≡ 0 = ap (λ (n : ℕ). n * E) none ∙ zero-mul E in
    absurd (omega arith)
far true M E false p q true P Q z Z l h =
    let e = eqb→eq (p * Q) (P * q) (and_l (p * Q == P * q) (p * Q == 0) h) in
    let o = eqb→eq (p * Q) 0 (and_r (p * Q == P * q) (p * Q == 0) h) in
    let v : p * E ≡ 0 = ap (λ (n : ℕ). n * E) (no_product p Q o Z) ∙ zero-mul E in
    let w : P * E ≡ 0 = ap (λ (n : ℕ). n * E) (no_product P q (sym e ∙ o) z) ∙ zero-mul E in
    (omega arith, same (p * E + M * q) (M * Q - P * E) (omega arith) (omega arith))
  where
    same : (D G : ℕ) → D ≡ M * q → G ≡ M * Q → D * (Q * E) ≤ G * (q * E)
    same D G d g =
        let a : D * (Q * E) ≡ M * q * (Q * E) = ap (λ (n : ℕ). n * (Q * E)) d in
        let b : G * (q * E) ≡ M * Q * (q * E) = ap (λ (n : ℕ). n * (q * E)) g in
        omega arith
far false M E true p q u P Q z Z l h = absurd l

high_of : (v : Float) → Signed false v → T (le oneᶠ v) → High v
unfolding le lt eq
high_of nan p h = absurd p
high_of (inf s) p h = p
high_of (fin true m e) p h = absurd (true≢false p)
high_of (fin false m e) p h = (refl, let k = at_most (1 * up (pos 0) * down e) (m * up e * down (pos 0)) h in omega arith)

one-stays : (f : Format) → round f false 1 1 ≡ oneᶠ
unfolding round
one-stays binary32 = refl
one-stays binary64 = refl

-- what is at least 1 is so when it is rounded
high_round : (f : Format) (a b : ℕ) → 0 < b → b ≤ a → High (round f false a b)
high_round f a b B h =
    high_of (round f false a b) (round-signed f false a b)
    (subst (λ (v : Float). T (le v (round f false a b))) (one-stays f) (round_mono f 1 1 a b (pow_pos 0) B (omega arith)))

high_narrowed : (v : Float) → High v → High (narrowed v)
unfolding narrowed
high_narrowed nan h = tt
high_narrowed (inf s) h = h
high_narrowed (fin true m e) h = absurd (true≢false h.0)
high_narrowed (fin false m e) h = high_round binary32 (m * up e) (down e) (down_pos e) h.1

high_below : (v : Float) → High v → lt v oneᶠ ≡ false
unfolding lt
high_below nan h = refl
high_below (inf true) h = absurd (true≢false h)
high_below (inf false) h = refl
high_below (fin true m e) h = absurd (true≢false h.0)
high_below (fin false m e) h =
    let k = h.1 in
    is_false (nat_lt (m * up e * down (pos 0)) (1 * up (pos 0) * down e)) (le→nltb (m * up e * down (pos 0)) (1 * up (pos 0) * down e) (omega arith))

high_quotient : (n d : Float) → Signed false n → Signed false d → T (le d n) → High (div binary64 n d)
unfolding div le lt eq
high_quotient nan d p q h = absurd p
high_quotient (inf s) nan p q h = absurd q
high_quotient (inf s) (inf t) p q h = tt
high_quotient (inf true) (fin t n d) p q h = absurd (true≢false p)
high_quotient (inf false) (fin true n d) p q h = absurd (true≢false q)
high_quotient (inf false) (fin false n d) p q h = refl
high_quotient (fin s m e) nan p q h = absurd q
high_quotient (fin s m e) (inf true) p q h = absurd (true≢false q)
high_quotient (fin s m e) (inf false) p q h = absurd h
high_quotient (fin true m e) (fin t n d) p q h = absurd (true≢false p)
high_quotient (fin false m e) (fin true n d) p q h = absurd (true≢false q)
high_quotient (fin false m e) (fin false n d) p q h = go (n == 0) (above_zero n) (m == 0)
  where
    go : (a : Bool) → (T (not a) → 0 < n) → (b : Bool) → High (cond a (cond b nan (inf false)) (round binary64 false (m * up e * down d) (n * up d * down e)))
    go true k true = tt
    go true k false = refl
    go false k b = high_round binary64 (m * up e * down d) (n * up d * down e) (mul-pos (mul-pos (k tt) (up_pos d)) (down_pos e)) (at_most (n * up d * down e) (m * up e * down d) h)

high_phase : (a b x : Float) → T (lt a b) → T (le b x) → High (div binary64 (sub binary64 x a) (sub binary64 b a))
unfolding div sub add neg le lt eq
high_phase nan b x h k = absurd h
high_phase (inf true) nan x h k = absurd h
high_phase (inf true) (inf true) x h k = absurd h
high_phase (inf true) (inf false) nan h k = absurd k
high_phase (inf true) (inf false) (inf true) h k = absurd k
high_phase (inf true) (inf false) (inf false) h k = tt
high_phase (inf true) (inf false) (fin u l g) h k = absurd k
high_phase (inf true) (fin t n d) nan h k = absurd k
high_phase (inf true) (fin t n d) (inf true) h k = absurd k
high_phase (inf true) (fin t n d) (inf false) h k = tt
high_phase (inf true) (fin t n d) (fin u l g) h k = tt
high_phase (inf false) nan x h k = absurd h
high_phase (inf false) (inf t) x h k = absurd h
high_phase (inf false) (fin t n d) x h k = absurd h
high_phase (fin s m e) nan x h k = absurd h
high_phase (fin s m e) (inf true) x h k = absurd h
high_phase (fin s m e) (inf false) nan h k = absurd k
high_phase (fin s m e) (inf false) (inf true) h k = absurd k
high_phase (fin s m e) (inf false) (inf false) h k = tt
high_phase (fin s m e) (inf false) (fin u l g) h k = absurd k
high_phase (fin s m e) (fin t n d) nan h k = absurd k
high_phase (fin s m e) (fin t n d) (inf true) h k = absurd k
high_phase (fin s m e) (fin t n d) (inf false) h k = over (sub binary64 (fin t n d) (fin s m e)) (signed_difference (fin s m e) (fin t n d) h)
  where
    over : (v : Float) → Signed false v → High (div binary64 (inf false) v)
    over nan p = absurd p
    over (inf t) p = tt
    over (fin true n d) p = absurd (true≢false p)
    over (fin false n d) p = refl
high_phase (fin s m e) (fin t n d) (fin u l g) h k =
    let r = far s (m * up e) (down e) t (n * up d) (down d) u (l * up g) (down g) (down_pos d) (down_pos g) h k in
    let b = gap s (m * up e * down d) t (n * up d * down e) in
    let x = gap s (m * up e * down g) u (l * up g * down e) in
    let B = round binary64 false b (down d * down e) in
    let X = round binary64 false x (down g * down e) in
    let e_b = sum-gap s (m * up e * down d) t (n * up d * down e) (down d * down e) (above_of s (m * up e * down d) t (n * up d * down e) h) in
    let e_x = sum-gap s (m * up e * down g) u (l * up g * down e) (down g * down e) r.0 in
    subst (λ (v : Float). High (div binary64 v (sub binary64 (fin t n d) (fin s m e)))) (sym e_x)
    (subst (λ (v : Float). High (div binary64 X v)) (sym e_b)
    (high_quotient X B (round-signed binary64 false x (down g * down e)) (round-signed binary64 false b (down d * down e))
    (round_mono binary64 b (down d * down e) x (down g * down e) (mul-pos (down_pos d) (down_pos e)) (mul-pos (down_pos g) (down_pos e)) r.1)))

-- ---- the end at b: from it on the phase is not below 1
pub not-below-one : (a b x : Float) → T (lt a b) → T (le b x) → lt (narrowed (div binary64 (sub binary64 x a) (sub binary64 b a))) oneᶠ ≡ false
not-below-one a b x h k =
    high_below (narrowed (div binary64 (sub binary64 x a) (sub binary64 b a)))
    (high_narrowed (div binary64 (sub binary64 x a) (sub binary64 b a)) (high_phase a b x h k))
