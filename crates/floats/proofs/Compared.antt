-- `ordered`, by the tests that `total_cmp` makes. Assumes nothing.
use Rattle.std.proofs.Common.{◌≡◌, ℕ, zero, suc, ◌+◌, ◌*◌, ◌/◌, ◌%◌, ◌^◌, ◌<◌, ◌≤◌, Bool, true, false, cond, not, ◌&&◌, ◌||◌, T, eqb, leb, ◌⊎◌, sym, refl, ap, ◌∙◌, subst, inl, inr, true≢false, nat_cmp, nat_lt, nat_eq, arith, leb→le, ltb-true, ltb-false, le-ltb, eq-eqb, eqb-true}
use mathlib.Core.Bool.{and-true, beq, false≢true}
use Rattle.std.specs.Ordering.{bool_cmp}
use Rattle.std.proofs.lemmas.Bool.{eqb-false}
use lib.Dec.{nleb→lt}
use lib.Ieee.{Float, nan, inf, fin, binary64, up, down, below, level, lt, eq, fits, is_nan, odd, of_fields, of_bits, to_bits}
use lib.Ieee.Bits.{is_false, of_bits-to_bits, to_bits-lt}
use Rattle.floats.specs.Floats.{total_less, negative}
use Rattle.floats.specs.Ordered.{ordered}
use Rattle.floats.specs.TotalOrder.{total_less_irreflexive, total_less_asymmetric, total_less_connected, ordered-less, ordered-greater, ordered_equal}
use Rattle.std.specs.declared.cmp.Ordering.TheVariants.{Less, Equal, Greater}
use Rattle.floats.proofs.Patterns.{same_no_nan, the_nan}

-- ---- the sign is the top bit
negative_fields : (s : Bool) (x t : ℕ) → T (not (is_nan (of_fields binary64 s x t))) → negative (of_fields binary64 s x t) ≡ s
unfolding of_fields odd is_nan negative
negative_fields s zero zero n = refl
negative_fields s zero (suc t) n = refl
negative_fields s (suc x) t n = go (eqb (suc x) 2047) (eqb t 0) (2 ^ 52 + t) n
  where
    go : (a b : Bool) (q : ℕ) → T (not (is_nan (cond a (cond b (inf s) nan) (odd 53 s q x 1074)))) → negative (cond a (cond b (inf s) nan) (odd 53 s q x 1074)) ≡ s
    go true true q n = refl
    go true false q n = absurd n
    go false b zero n = refl
    go false b (suc q) n = refl

negative-bits : (b : ℕ) → T (not (is_nan (of_bits binary64 b))) → negative (of_bits binary64 b) ≡ leb (2 ^ 63) b
unfolding of_bits
negative-bits b n = negative_fields (leb (2 ^ 63) b) (b % 2 ^ 63 / 2 ^ 52) (b % 2 ^ 52) n

sign_bit : (x : Float) → T (fits binary64 x) → T (not (is_nan x)) → to_bits binary64 x / 2 ^ 63 ≡ cond (negative x) 1 0
sign_bit x f n =
    let b = to_bits binary64 x in
    let back = of_bits-to_bits binary64 x f in
    top_bit b (to_bits-lt binary64 x f) ∙ ap (λ (s : Bool). cond s 1 0) (sym (negative-bits b (subst (λ (v : Float). T (not (is_nan v))) (sym back) n)) ∙ ap negative back)
  where
    top_bit : (b : ℕ) → b < 2 ^ 64 → b / 2 ^ 63 ≡ cond (leb (2 ^ 63) b) 1 0
    top_bit b h = go (leb (2 ^ 63) b) (leb→le (2 ^ 63) b) (nleb→lt (2 ^ 63) b)
      where
        go : (t : Bool) → (T t → 2 ^ 63 ≤ b) → (T (not t) → b < 2 ^ 63) → b / 2 ^ 63 ≡ cond t 1 0
        go true l g = let h' = l tt in omega arith
        go false l g = let h' = g tt in omega arith

-- ---- one is less
pub less : (x y : Float) → lt x y ≡ true → Less ≡ ordered x y
unfolding total_less
less x y h = sym (ordered-less x y (ap (λ (t : Bool). t || (eq x y && (negative x && not (negative y))) || (is_nan y && not (is_nan x))) h))

pub greater : (x y : Float) → lt y x ≡ true → Greater ≡ ordered x y
greater x y h = sym (ordered-greater x y (total_less_asymmetric y x (lt-total_less h)) (lt-total_less h))
  where
    lt-total_less : lt y x ≡ true → total_less y x ≡ true
    lt-total_less h = unfold total_less in ap (λ (t : Bool). t || (eq y x && (negative y && not (negative x))) || (is_nan x && not (is_nan y))) h

-- ---- NaNs
both_nan : (x y : Float) → is_nan x ≡ true → is_nan y ≡ true → Equal ≡ ordered x y
both_nan x y h k = sym (ap (λ (v : Float). ordered v y) (the_nan x h) ∙ ap (ordered nan) (the_nan y k) ∙ nans)
  where
    nans : ordered nan nan ≡ Equal
    nans = unfold ordered in refl

nan_last : (y : Float) → T (not (is_nan y)) → (total_less y nan ≡ true) × (total_less nan y ≡ false)
unfolding total_less is_nan
nan_last nan n = absurd n
nan_last (inf s) n = (refl, refl)
nan_last (fin s m e) n = (refl, refl)

nan_greater : (x y : Float) → is_nan x ≡ true → is_nan y ≡ false → Greater ≡ ordered x y
nan_greater x y h k =
    let r = nan_last y (same_no_nan y k) in
    sym (ap (λ (v : Float). ordered v y) (the_nan x h) ∙ ordered-greater nan y r.1 r.0)

-- ---- the two are equal values: neither is less, and neither is a NaN

-- two equal numbers with their signs
level-below : (s : Bool) (a : ℕ) (t : Bool) (b : ℕ) → level s a t b ≡ true → (below s a t b ≡ false) × (below t b s a ≡ false)
level-below s a t b h = go s t (eqb a b) (eqb a 0) refl refl h
  where
    go : (s t p q : Bool) → eqb a b ≡ p → eqb a 0 ≡ q → (p && (beq s t || q)) ≡ true → (below s a t b ≡ false) × (below t b s a ≡ false)
    go s t false q u v h = absurd (true≢false (sym h))
    go false false true q u v h = let e = eqb-true a b u in (le-ltb a b (omega arith), le-ltb b a (omega arith))
    go true true true q u v h = let e = eqb-true a b u in (le-ltb b a (omega arith), le-ltb a b (omega arith))
    go false true true false u v h = absurd (true≢false (sym h))
    go false true true true u v h = let e = eqb-true a b u in let z = eqb-true a 0 v in (refl, le-ltb 0 (b + a) (omega arith))
    go true false true false u v h = absurd (true≢false (sym h))
    go true false true true u v h = let e = eqb-true a b u in let z = eqb-true a 0 v in (le-ltb 0 (a + b) (omega arith), refl)

pub equal_values : (x y : Float) → eq x y ≡ true → (lt x y ≡ false) × (lt y x ≡ false) × T (not (is_nan x)) × T (not (is_nan y))
unfolding eq lt is_nan
equal_values nan y h = absurd (true≢false (sym h))
equal_values (inf s) nan h = absurd (true≢false (sym h))
equal_values (inf true) (inf true) h = (refl, refl, tt, tt)
equal_values (inf true) (inf false) h = absurd (true≢false (sym h))
equal_values (inf false) (inf true) h = absurd (true≢false (sym h))
equal_values (inf false) (inf false) h = (refl, refl, tt, tt)
equal_values (inf s) (fin t n d) h = absurd (true≢false (sym h))
equal_values (fin s m e) nan h = absurd (true≢false (sym h))
equal_values (fin s m e) (inf t) h = absurd (true≢false (sym h))
equal_values (fin s m e) (fin t n d) h = let r = level-below s (m * up e * down d) t (n * up d * down e) h in (r.0, r.1, tt, tt)

-- ---- neither is less nor are they equal: one is a NaN, and where x is none, y comes last

level-not : (s : Bool) (a : ℕ) (t : Bool) (b : ℕ) → level s a t b ≡ false → below s a t b ≡ false → below t b s a ≡ false → ⊥
level-not s a t b h p q = go s t h p q
  where
    is : (r : Bool) → a ≡ b → (r ≡ true) ⊎ (a ≡ 0) → (eqb a b && (r || eqb a 0)) ≡ false → ⊥
    is true e w h = true≢false (sym (eq-eqb a b e) ∙ sym (and-true (eqb a b)) ∙ h)
    is false e (inl w) h = true≢false (sym w)
    is false e (inr w) h = true≢false (sym (ap (λ (k : Bool). k && eqb a 0) (eq-eqb a b e) ∙ eq-eqb a 0 w) ∙ h)

    go : (s t : Bool) → (eqb a b && (beq s t || eqb a 0)) ≡ false → below s a t b ≡ false → below t b s a ≡ false → ⊥
    go false false h p q = let u = ltb-false a b p in let v = ltb-false b a q in is true (omega arith) (inl refl) h
    go true true h p q = let u = ltb-false b a p in let v = ltb-false a b q in is true (omega arith) (inl refl) h
    go false true h p q = let u = ltb-false 0 (b + a) q in is false (omega arith) (inr (omega arith)) h
    go true false h p q = let u = ltb-false 0 (a + b) p in is false (omega arith) (inr (omega arith)) h

other_nan : (x y : Float) → eq x y ≡ false → lt x y ≡ false → lt y x ≡ false → T (not (is_nan x)) → y ≡ nan
unfolding eq lt is_nan
other_nan nan y h p q n = absurd n
other_nan (inf s) nan h p q n = refl
other_nan (fin s m e) nan h p q n = refl
other_nan (inf true) (inf true) h p q n = absurd (true≢false h)
other_nan (inf true) (inf false) h p q n = absurd (true≢false p)
other_nan (inf false) (inf true) h p q n = absurd (true≢false q)
other_nan (inf false) (inf false) h p q n = absurd (true≢false h)
other_nan (inf true) (fin t m d) h p q n = absurd (true≢false p)
other_nan (inf false) (fin t m d) h p q n = absurd (true≢false q)
other_nan (fin s m e) (inf true) h p q n = absurd (true≢false q)
other_nan (fin s m e) (inf false) h p q n = absurd (true≢false p)
other_nan (fin s m e) (fin t k d) h p q n = absurd (level-not s (m * up e * down d) t (k * up d * down e) h p q)

-- which is the order of "is a NaN"
pub nan_order : (x y : Float) → eq x y ≡ false → lt x y ≡ false → lt y x ≡ false → bool_cmp (is_nan x) (is_nan y) ≡ ordered x y
nan_order x y h p q = go (is_nan x) (is_nan y) refl refl
  where
    nan_is_nan : is_nan nan ≡ true
    nan_is_nan = unfold is_nan in refl

    go : (s t : Bool) → is_nan x ≡ s → is_nan y ≡ t → bool_cmp s t ≡ ordered x y
    go true true u v = both_nan x y u v
    go true false u v = nan_greater x y u v
    go false true u v = sym (ap (λ (w : Float). ordered x w) (the_nan y v) ∙ ordered-less x nan (nan_last x (same_no_nan x u)).0)
    go false false u v = absurd (false≢true (sym v ∙ ap is_nan (other_nan x y h p q (same_no_nan x u)) ∙ nan_is_nan))

-- ---- equal values: the bits
flat : (p q r u z : Bool) → p ≡ false → r ≡ false → u ≡ false → (p || (q && r) || (u && z)) ≡ false
flat true q r u z a b c = absurd (true≢false a)
flat false q true u z a b c = absurd (true≢false b)
flat false q false true z a b c = absurd (true≢false c)
flat false true false false z a b c = refl
flat false false false false z a b c = refl

not-total_less : (x y : Float) → lt x y ≡ false → (negative x && not (negative y)) ≡ false → T (not (is_nan y)) → total_less x y ≡ false
unfolding total_less
not-total_less x y a b n = flat (lt x y) (eq x y) (negative x && not (negative y)) (is_nan y) (not (is_nan x)) a b (is_false (is_nan y) n)

-- where only x is negative, x is less than y: otherwise the two would be one value
only-first : (x y : Float) → T (fits binary64 x) → T (fits binary64 y) → T (not (is_nan x)) → lt y x ≡ false → negative x ≡ true → negative y ≡ false → (total_less y x ≡ false) × (total_less x y ≡ true)
only-first x y f g n q a b =
    let r : total_less y x ≡ false = not-total_less y x q (ap (λ (t : Bool). t && not (negative x)) b) n in
    (r, go (total_less x y) refl r)
  where
    go : (t : Bool) → total_less x y ≡ t → total_less y x ≡ false → t ≡ true
    go true p r = refl
    go false p r = absurd (true≢false (sym a ∙ ap negative (total_less_connected binary64 x y f g p r) ∙ b))

module _ (x y : Float) (f : T (fits binary64 x)) (g : T (fits binary64 y)) (same : eq x y ≡ true) where
  p : lt x y ≡ false
  p = (equal_values x y same).0

  q : lt y x ≡ false
  q = (equal_values x y same).1

  n : T (not (is_nan x))
  n = (equal_values x y same).2

  k : T (not (is_nan y))
  k = (equal_values x y same).3

  -- of one sign they are one value
  alike : (s : Bool) → negative x ≡ s → negative y ≡ s → x ≡ y
  alike s a b = total_less_connected binary64 x y f g (not-total_less x y p (both x y a b) k) (not-total_less y x q (both y x b a) n)
    where
      one : (s : Bool) → (s && not s) ≡ false
      one true = refl
      one false = refl

      both : (x y : Float) → negative x ≡ s → negative y ≡ s → (negative x && not (negative y)) ≡ false
      both x y a b = ap (λ (t : Bool). t && not (negative y)) a ∙ ap (λ (t : Bool). s && not t) b ∙ one s

  first : negative x ≡ true → negative y ≡ false → Less ≡ ordered x y
  first a b = sym (ordered-less x y (only-first x y f g n q a b).1)

  second : negative x ≡ false → negative y ≡ true → Greater ≡ ordered x y
  second a b = let r = only-first y x g f k p b a in sym (ordered-greater x y r.0 r.1)

  bits_equal : to_bits binary64 x ≡ to_bits binary64 y → Equal ≡ ordered x y
  bits_equal h =
      let e : x ≡ y = sym (of_bits-to_bits binary64 x f) ∙ ap (of_bits binary64) h ∙ of_bits-to_bits binary64 y g in
      sym (ap (λ (v : Float). ordered x v) (sym e) ∙ ordered_equal x x (total_less_irreflexive x) (total_less_irreflexive x))

  -- of two signs, the sign is the top bit
  bits-less : to_bits binary64 y < to_bits binary64 x → Less ≡ ordered x y
  bits-less h = go (negative x) (negative y) refl refl (sign_bit x f n) (sign_bit y g k)
    where
      go : (a b : Bool) → negative x ≡ a → negative y ≡ b → to_bits binary64 x / 2 ^ 63 ≡ cond a 1 0 → to_bits binary64 y / 2 ^ 63 ≡ cond b 1 0 → Less ≡ ordered x y
      go true true u v i j = let e = ap (to_bits binary64) (alike true u v) in absurd (omega arith)
      go true false u v i j = first u v
      go false true u v i j = absurd (omega arith)
      go false false u v i j = let e = ap (to_bits binary64) (alike false u v) in absurd (omega arith)

  bits-greater : to_bits binary64 x < to_bits binary64 y → Greater ≡ ordered x y
  bits-greater h = go (negative x) (negative y) refl refl (sign_bit x f n) (sign_bit y g k)
    where
      go : (a b : Bool) → negative x ≡ a → negative y ≡ b → to_bits binary64 x / 2 ^ 63 ≡ cond a 1 0 → to_bits binary64 y / 2 ^ 63 ≡ cond b 1 0 → Greater ≡ ordered x y
      go true true u v i j = let e = ap (to_bits binary64) (alike true u v) in absurd (omega arith)
      go true false u v i j = absurd (omega arith)
      go false true u v i j = second u v
      go false false u v i j = let e = ap (to_bits binary64) (alike false u v) in absurd (omega arith)

  -- so equal values stand in the order of their bits turned round
  pub bits-order : nat_cmp (to_bits binary64 y) (to_bits binary64 x) ≡ ordered x y
  bits-order = go (nat_lt b a) (nat_eq b a) refl refl
    where
      a : ℕ
      a = to_bits binary64 x

      b : ℕ
      b = to_bits binary64 y

      go : (s t : Bool) → nat_lt b a ≡ s → nat_eq b a ≡ t → cond s Less (cond t Equal Greater) ≡ ordered x y
      go true t u v = bits-less (ltb-true b a u)
      go false true u v = bits_equal (sym (eqb-true b a v))
      go false false u v = bits-greater (omega (arith, ltb-false b a u, eqb-false b a v))
