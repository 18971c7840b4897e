-- Narrowing is what `specs.Nearest` says. Values are taken in units of the smallest f32, 2 ^ -149, where `specs.Grid` has the rest. Assumes nothing.
use Rattle.std.specs.Prelude.{◌≡◌, ℕ, zero, suc, ◌+◌, ◌-◌, ◌*◌, ◌%◌, ◌^◌, ◌<◌, ◌≤◌, min, Bool, true, false, cond, T, ◌⊎◌, ℤ, ◌≢◌, nat_lt, to_bits, Float}
use Rattle.std.proofs.Math.Path.{refl, subst}
use Rattle.std.proofs.Common.{sym, ap, ◌∙◌, inl, inr, true≢false, le_trans, le_of_eq, lt_irrefl, lt_of_lt_of_le, lt_of_not-le, zero-mul, mul-one, mul_comm, mul_assoc, mul_right_comm, mul-pos, add-mul, mul-le-mul_right, mul-lt-mul_of_pos_right, le_of_mul-le-mul_right, arith, pow_pos}
use Rattle.std.specs.Bool.{beq}
use Rattle.std.specs.Float.Ieee.{nan, binary32, up, down, odd, units, round, fits, lt, le, eq}
use Rattle.std.specs.Float.{inf, fin}
use Rattle.std.specs.Float.Ieee.Fits.{down_pos, round_is, round-fits}
use Rattle.std.specs.Float.Ieee.Exact.{HasValue, odd_sign, units_val}
use Rattle.std.specs.Float.Ieee.Order.{drop, kept, round_mono}
use Rattle.std.specs.Float.Ieee.Scale.{finite}
use Rattle.floats.specs.Floats.{narrowed, negative}
use Rattle.floats.specs.Scaled.{Shape, shape}
use Rattle.floats.specs.Values.{value_unique}
use Rattle.floats.specs.Pack.{signed, units_bits}
use Rattle.floats.specs.Closest.{gap}
use Rattle.floats.specs.Nearest.{distance, NoFarther, IsNearest, Narrows}
use Rattle.floats.specs.Grid.{kept_full, kept_most, grid_near, grid_even}

-- ---- distances in units of the smallest f32, 2 ^ -149

zero_left : (y : ℕ) → 0 + y ≡ y
zero_left y = omega arith

zero_right : (x y : ℕ) → y ≡ 0 → x + y ≡ x
zero_right x y n = omega arith

gap-scale : (a b z : ℕ) → gap a b * z ≡ gap (a * z) (b * z)
gap-scale a b z = go (a - b) (b - a) refl refl
  where
    go : (x y : ℕ) → a - b ≡ x → b - a ≡ y → (x + y) * z ≡ gap (a * z) (b * z)
    go zero y p q =
        let e : b ≡ a + y = omega arith in
        let f : b * z ≡ a * z + y * z = ap (λ (w : ℕ). w * z) e ∙ add-mul a y z in
        let g : (0 + y) * z ≡ y * z = ap (λ (w : ℕ). w * z) (zero_left y) in
        omega arith
    go (suc x) y p q =
        let e : a ≡ b + suc x = omega arith in
        let f : a * z ≡ b * z + suc x * z = ap (λ (w : ℕ). w * z) e ∙ add-mul b (suc x) z in
        let n : y ≡ 0 = omega arith in
        let g : (suc x + y) * z ≡ suc x * z = ap (λ (w : ℕ). w * z) (zero_right (suc x) y n) in
        omega arith

-- N / D is R units: so is its distance from a / c, both multiplied by L
distance-scale : (s t : Bool) (a c N D R L : ℕ) → N * L ≡ R * D → distance s (a * D) t (N * c) * L ≡ distance s (a * L) t (R * c) * D
distance-scale s t a c N D R L e = go (beq s t)
  where
    first : a * D * L ≡ a * L * D
    first = mul_right_comm a D L

    second : N * c * L ≡ R * c * D
    second = mul_right_comm N c L ∙ ap (λ (z : ℕ). z * c) e ∙ mul_right_comm R D c

    go : (b : Bool) → cond b (gap (a * D) (N * c)) (a * D + N * c) * L ≡ cond b (gap (a * L) (R * c)) (a * L + R * c) * D
    go true = gap-scale (a * D) (N * c) L ∙ ap (λ (z : ℕ). gap z (N * c * L)) first ∙ ap (λ (z : ℕ). gap (a * L * D) z) second ∙ sym (gap-scale (a * L) (R * c) D)
    go false = add-mul (a * D) (N * c) L ∙ ap (λ (z : ℕ). z + N * c * L) first ∙ ap (λ (z : ℕ). a * L * D + z) second ∙ sym (add-mul (a * L) (R * c) D)

-- fractions with the denominators taken away, and put back
module _ (X x D Y y G L : ℕ) (e : X * L ≡ x * D) (f : Y * L ≡ y * G) where
  left_side : X * G * L ≡ x * (D * G)
  left_side = mul_right_comm X G L ∙ ap (λ (z : ℕ). z * G) e ∙ mul_assoc x D G

  right_side : Y * D * L ≡ y * (D * G)
  right_side = mul_right_comm Y D L ∙ ap (λ (z : ℕ). z * D) f ∙ mul_assoc y G D ∙ ap (λ (z : ℕ). y * z) (mul_comm G D)

  as_fractions : 0 < L → x ≤ y → X * G ≤ Y * D
  as_fractions l h = le_of_mul-le-mul_right {m = X * G} {n = Y * D} {k = L} (le_trans (le_of_eq left_side) (le_trans (mul-le-mul_right (D * G) h) (le_of_eq (sym right_side)))) l

  as_units : 0 < D * G → X * G ≤ Y * D → x ≤ y
  as_units l h = le_of_mul-le-mul_right {m = x} {n = y} {k = D * G} (le_trans (le_of_eq (sym left_side)) (le_trans (mul-le-mul_right L h) (le_of_eq right_side))) l

same_sign : (s : Bool) → beq s s ≡ true
same_sign true = refl
same_sign false = refl

beq_same : (s t : Bool) → beq s t ≡ true → s ≡ t
beq_same true true h = refl
beq_same true false h = absurd (true≢false (sym h))
beq_same false true h = absurd (true≢false (sym h))
beq_same false false h = refl

-- over plain numbers, so that no power of two is in reach
nothing : (a x z : ℕ) → z ≡ 0 → x ≤ gap a z → x ≤ a
nothing a x z e h = omega arith

opposite : (a x y : ℕ) → x ≤ a → x ≤ a + y
opposite a x y h = omega arith

far : (a y z g : ℕ) → z ≡ 0 → a + y ≤ g → gap a z ≤ g
far a y z g e h = omega arith

-- ---- a finite result

abbrev L : ℕ
L = 2 ^ 149

module _ (s : Bool) (m : ℕ) (e : ℤ) where
  abbrev a : ℕ
  a = m * up e * L

  abbrev q : ℕ
  q = kept 24 a (down e)

  abbrev k : ℕ
  k = drop 24 a (down e)

  -- q * 2 ^ k units
  abbrev R : ℕ
  R = q * 2 ^ k

  C : 0 < down e
  C = down_pos e

  nearest_units : (n j : ℕ) → n < 2 ^ 24 → gap a (R * down e) ≤ gap a (n * 2 ^ j * down e)
  nearest_units n j h = grid_near 24 a (down e) (omega arith) C n j h

  even_units : (n j : ℕ) → n < 2 ^ 24 → gap a (n * 2 ^ j * down e) ≤ gap a (R * down e) → (n * 2 ^ j ≡ R) ⊎ (q % 2 ≡ 0)
  even_units n j h l = grid_even 24 a (down e) (omega arith) C n j h l

  -- nothing is farther than 0, which is 0 * 2 ^ 0 units
  from_zero : gap a (R * down e) ≤ a
  from_zero = nothing a (gap a (R * down e)) (0 * 2 ^ 0 * down e) (zero-mul (down e)) (nearest_units 0 0 (omega arith))

  even_bits : q % 2 ≡ 0 → to_bits binary32 (units binary32 s q k) % 2 ≡ 0
  even_bits h = ap (λ (x : ℕ). x % 2) (units_bits s q k (kept_most 24 a (down e) (omega arith) C) (kept_full 24 a (down e) (omega arith) C)) ∙ parity s q k h
    where
      parity : (s : Bool) (q k : ℕ) → q % 2 ≡ 0 → (signed s + min (k * 2 ^ 23 + q) (255 * 2 ^ 23)) % 2 ≡ 0
      parity true q k h = omega arith
      parity false q k h = omega arith

  module _ (v : Float) (value : HasValue v s R L) (fit : T (fits binary32 v)) (bits : q % 2 ≡ 0 → to_bits binary32 v % 2 ≡ 0) where
    -- the distance of another value is no less: with the other sign it is a at least
    no_less : (w : Bool) (n j : ℕ) → n < 2 ^ 24 → gap a (R * down e) ≤ distance s a w (n * 2 ^ j * down e)
    no_less w n j h = go (beq s w)
      where
        go : (b : Bool) → gap a (R * down e) ≤ cond b (gap a (n * 2 ^ j * down e)) (a + n * 2 ^ j * down e)
        go true = nearest_units n j h
        go false = opposite a (gap a (R * down e)) (n * 2 ^ j * down e) from_zero

    near_to : (v : Float) → HasValue v s R L → (y : Float) → T (fits binary32 y) → T (finite y) → NoFarther (fin s m e) v y
    near_to nan h y f i = absurd h
    near_to (inf t) h y f i = absurd h
    near_to (fin t n d) h nan f i = absurd i
    near_to (fin t n d) h (inf w) f i = absurd i
    near_to (fin t n d) h (fin w l g) f i =
        let sh = shape binary32 w l g f in
        as_fractions (distance s (m * up e * down d) t (n * up d * down e)) (distance s a t (R * down e)) (down d) (distance s (m * up e * down g) w (l * up g * down e))
        (distance s a w (l * 2 ^ sh.j * down e)) (down g) L
        (distance-scale s t (m * up e) (down e) (n * up d) (down d) R L h.1) (distance-scale s w (m * up e) (down e) (l * up g) (down g) (l * 2 ^ sh.j) L sh.exact) (pow_pos 149)
        (subst (λ (x : ℕ). x ≤ distance s a w (l * 2 ^ sh.j * down e)) (sym (ap (λ (t : Bool). distance s a t (R * down e)) h.0 ∙ ap (λ (b : Bool). cond b (gap a (R * down e)) (a + R * down e)) (same_sign s)))
        (no_less w l sh.j sh.short))

    -- what is as near: one value with v, or v's last digit is even
    as_near : (w : Bool) (n j : ℕ) → n < 2 ^ 24 → distance s a w (n * 2 ^ j * down e) ≤ gap a (R * down e) → ((s ≡ w) × (n * 2 ^ j ≡ R)) ⊎ (q % 2 ≡ 0)
    as_near w n j h l = go (beq s w) refl l
      where
        with_sign : s ≡ w → (n * 2 ^ j ≡ R) ⊎ (q % 2 ≡ 0) → ((s ≡ w) × (n * 2 ^ j ≡ R)) ⊎ (q % 2 ≡ 0)
        with_sign e (inl x) = inl (e, x)
        with_sign e (inr x) = inr x

        zero_even : (x y : ℕ) → 0 < y → 0 ≡ x * y → x % 2 ≡ 0
        zero_even zero y p e = refl
        zero_even (suc x) y p e = absurd (lt_irrefl 0 (lt_of_lt_of_le (mul-pos {m = suc x} {n = y} (omega arith) p) (le_of_eq (sym e))))

        at_zero : (0 * 2 ^ 0 ≡ R) ⊎ (q % 2 ≡ 0) → q % 2 ≡ 0
        at_zero (inl x) = zero_even q (2 ^ k) (pow_pos k) x
        at_zero (inr x) = x

        go : (b : Bool) → beq s w ≡ b → cond b (gap a (n * 2 ^ j * down e)) (a + n * 2 ^ j * down e) ≤ gap a (R * down e) → ((s ≡ w) × (n * 2 ^ j ≡ R)) ⊎ (q % 2 ≡ 0)
        go true b l = with_sign (beq_same s w b) (even_units n j h l)
        go false b l = inr (at_zero (even_units 0 0 (omega arith) (far a (n * 2 ^ j * down e) (0 * 2 ^ 0 * down e) (gap a (R * down e)) (zero-mul (down e)) l)))

    even_to : (v : Float) → HasValue v s R L → T (fits binary32 v) → (q % 2 ≡ 0 → to_bits binary32 v % 2 ≡ 0) → (y : Float) → T (fits binary32 y) → T (finite y) → NoFarther (fin s m e) y v
        → (y ≡ v) ⊎ (to_bits binary32 v % 2 ≡ 0)
    even_to nan h vf b y f i l = absurd h
    even_to (inf t) h vf b y f i l = absurd h
    even_to (fin t n d) h vf b nan f i l = absurd i
    even_to (fin t n d) h vf b (inf w) f i l = absurd i
    even_to (fin t n d) h vf b (fin w r g) f i l =
        let sh = shape binary32 w r g f in
        let units = as_units (distance s (m * up e * down g) w (r * up g * down e)) (distance s a w (r * 2 ^ sh.j * down e)) (down g) (distance s (m * up e * down d) t (n * up d * down e))
        (distance s a t (R * down e)) (down d) L
        (distance-scale s w (m * up e) (down e) (r * up g) (down g) (r * 2 ^ sh.j) L sh.exact) (distance-scale s t (m * up e) (down e) (n * up d) (down d) R L h.1)
        (mul-pos (down_pos g) (down_pos d)) l in
        named sh (as_near w r sh.j sh.short
        (subst (λ (x : ℕ). distance s a w (r * 2 ^ sh.j * down e) ≤ x) (ap (λ (t : Bool). distance s a t (R * down e)) h.0 ∙ ap (λ (b : Bool). cond b (gap a (R * down e)) (a + R * down e)) (same_sign s)) units))
      where
        named : (sh : Shape binary32 r g) → ((s ≡ w) × (r * 2 ^ sh.j ≡ R)) ⊎ (q % 2 ≡ 0) → (fin w r g ≡ fin t n d) ⊎ (to_bits binary32 (fin t n d) % 2 ≡ 0)
        named sh (inl x) = inl (value_unique binary32 (fin w r g) (fin t n d) s R L (pow_pos 149) f vf (sym x.0, sh.exact ∙ ap (λ (z : ℕ). z * down g) x.1) h)
        named sh (inr x) = inr (b x)

    is_finite : (v : Float) → HasValue v s R L → T (finite v)
    is_finite nan h = absurd h
    is_finite (inf t) h = absurd h
    is_finite (fin t n d) h = tt

    sign_of : (v : Float) → HasValue v s R L → negative v ≡ s
    unfolding negative
    sign_of nan h = absurd h
    sign_of (inf t) h = absurd h
    sign_of (fin t n d) h = h.0

    pub nearest_value : IsNearest (fin s m e) v
    nearest_value = record {
      held = fit;
      finite_too = is_finite v value;
      sign = sign_of v value ∙ (unfold negative in refl);
      near = near_to v value;
      even = even_to v value fit bits;
    }

-- ---- an infinity

-- the middle between the largest f32 and 2 ^ 128, and all that is above
abbrev middle : ℕ
middle = (2 ^ 25 - 1) * 2 ^ 103

above_inf : (v : Float) → T (le (inf false) v) → v ≡ inf false
unfolding le lt eq
above_inf nan h = absurd h
above_inf (inf true) h = absurd h
above_inf (inf false) h = refl
above_inf (fin t n d) h = absurd h

rounds_over : (a c : ℕ) → 0 < c → middle * c ≤ a → round binary32 false a c ≡ inf false
rounds_over a c C h = above_inf (round binary32 false a c) (subst (λ (v : Float). T (le v (round binary32 false a c))) at-middle (round_mono binary32 middle 1 a c (omega arith) C (le_trans h (le_of_eq (sym (mul-one a))))))
  where
    at-middle : round binary32 false middle 1 ≡ inf false
    at-middle = unfold round in refl

-- the sign is kept
units_over : (s : Bool) (q k : ℕ) → units binary32 false q k ≡ inf false → units binary32 s q k ≡ inf s
unfolding units
units_over s q k h = go (nat_lt (q * 2 ^ k) (2 ^ 277)) h
  where
    clash : (v : Float) (n : ℕ) → HasValue v false n (2 ^ 149) → v ≢ inf false
    clash v n g e = subst (λ (v : Float). HasValue v false n (2 ^ 149)) e g

    go : (b : Bool) → cond b (odd 25 false q k 149) (inf false) ≡ inf false → cond b (odd 25 s q k 149) (inf s) ≡ inf s
    go true e = absurd (clash (odd 25 false q k 149) (q * 2 ^ k) (odd_sign 25 false q k 149) e)
    go false e = refl

-- below the middle the result is finite: were it 2 ^ 277 units or more, the largest f32 would be nearer
between : (A Y M N R w : ℕ) → 0 < w → M ≡ Y + w → N ≡ M + w → A < M → N ≤ R → gap A R ≤ gap A Y → ⊥
between A Y M N R w W m n h l g = omega arith

module _ (s : Bool) (m : ℕ) (e : ℤ) where
  over_largest : 2 ^ 277 ≤ R s m e → m * up e < middle * down e → ⊥
  over_largest g h =
      between (a s m e) ((2 ^ 24 - 1) * 2 ^ 253 * down e) (middle * L * down e) (2 ^ 277 * down e) (R s m e * down e) (2 ^ 252 * down e) (mul-pos (pow_pos 252) (C s m e))
      (ap (λ (z : ℕ). z * down e) up_one ∙ add-mul ((2 ^ 24 - 1) * 2 ^ 253) (2 ^ 252) (down e))
      (ap (λ (z : ℕ). z * down e) up-two ∙ add-mul (middle * L) (2 ^ 252) (down e))
      (lt_of_lt_of_le (mul-lt-mul_of_pos_right h (pow_pos 149)) (le_of_eq (mul_right_comm middle (down e) L)))
      (mul-le-mul_right (down e) g)
      (nearest_units s m e (2 ^ 24 - 1) 253 (omega arith))
    where
      up_one : middle * L ≡ (2 ^ 24 - 1) * 2 ^ 253 + 2 ^ 252
      up_one = refl

      up-two : 2 ^ 277 ≡ middle * L + 2 ^ 252
      up-two = refl

  under : m * up e < middle * down e → R s m e < 2 ^ 277
  under h = lt_of_not-le (λ (g : 2 ^ 277 ≤ R s m e). over_largest g h)

  pub narrows : Narrows s m e
  unfolding narrowed
  narrows = record {
    nearest = λ h. subst (IsNearest (fin s m e)) (sym (round_is binary32 s (m * up e) (down e)))
        (nearest_value s m e (units binary32 s (q s m e) (k s m e)) (units_val binary32 s (q s m e) (k s m e) (under h))
        (subst (λ (v : Float). T (fits binary32 v)) (round_is binary32 s (m * up e) (down e)) (round-fits binary32 s (m * up e) (down e))) (even_bits s m e));
    overflow = λ h. round_is binary32 s (m * up e) (down e)
        ∙ units_over s (q s m e) (k s m e) (sym (round_is binary32 false (m * up e) (down e)) ∙ rounds_over (m * up e) (down e) (C s m e) h);
  }
