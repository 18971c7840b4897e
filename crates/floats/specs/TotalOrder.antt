-- `total_less` is a strict order on all floats, and "not after" a total preorder: no `fits` is asked for. On the values that a format holds it is total: of two that differ as data one is total_less the other.
-- Any few values have whole numbers, their `key`s, and x is less than y where x's key is less. Assumes nothing.
use Rattle.std.specs.Prelude.{◌≡◌, ℕ, zero, suc, ◌+◌, ◌-◌, ◌*◌, ◌/◌, ◌^◌, ◌<◌, ◌≤◌, Bool, true, false, cond, not, ◌&&◌, ◌||◌, T, ltb, ℤ, pos, negsuc, ◌==◌, nat_lt, refl, Float}
use Rattle.std.proofs.Common.{sym, ap, ◌∙◌, subst, true≢false, suc-le-suc, le_trans, mul-div_cancel, lt_of_lt_of_le, lt_of_le_of_lt, le_of_lt, le_of_eq, le_antisymm, mul_assoc, mul_comm, mul_right_comm, mul-pos, mul-lt-mul_of_pos_right, lt_of_mul-lt-mul_right, arith, ltb→lt, lt→ltb, nltb→le, pow_pos, pow_mono}
use Rattle.std.proofs.Math.Dec.{not_T}
use Rattle.std.proofs.Math.Arith.{le→nltb}
use Rattle.std.specs.Float.{nan, inf, fin, Format}
use Rattle.std.specs.Float.Ieee.{up, down, fits}
use Rattle.std.specs.Float.Ieee.Fits.{down_pos}
use Rattle.std.specs.Float.Ieee.Bits.{is_true, is_false}
use Rattle.floats.specs.Floats.{total_less}
use Rattle.floats.specs.Ordered.{ordered}
use Rattle.floats.specs.Values.{value_unique}
use Rattle.floats.specs.Scaled.{scaled}
use Rattle.std.specs.declared.cmp.Ordering.TheVariants.{Less, Equal, Greater}

-- ---- The size of a finite value in units of 2 ^ -l, for an l that its exponent allows
abbrev units_of : ℕ → ℕ → ℤ → ℕ
units_of l m e = m * up e * 2 ^ l / down e

exact : (l m : ℕ) (e : ℤ) → down e ≤ 2 ^ l → m * up e * 2 ^ l ≡ units_of l m e * down e
exact l m e h =
    let z = scaled l e h in
    let q : m * up e * 2 ^ l ≡ m * 2 ^ z.0 * down e = mul_assoc m (up e) (2 ^ l) ∙ ap (λ (x : ℕ). m * x) z.1 ∙ sym (mul_assoc m (2 ^ z.0) (down e)) in
    q ∙ ap (λ (x : ℕ). x * down e) (sym (ap (λ (x : ℕ). x / down e) q ∙ mul-div_cancel (m * 2 ^ z.0) (down_pos e)))

-- the key, with an N that is above the units of every finite value at hand
unfoldable key : ℕ → ℕ → Float → ℕ
key l N nan = 2 * N + 2
key l N (inf s) = cond s 0 (2 * N + 1)
key l N (fin s m e) = cond s (N - units_of l m e) (N + 1 + units_of l m e)

-- l and N serve for x
abbrev Serves : ℕ → ℕ → Float → Type 0
Serves l N nan = Unit {0}
Serves l N (inf s) = Unit {0}
Serves l N (fin s m e) = (down e ≤ 2 ^ l) × (units_of l m e < N)

-- ---- two tests that agree
same_test : (a b : Bool) → (T a → T b) → (T b → T a) → a ≡ b
same_test true true p q = refl
same_test true false p q = absurd (p tt)
same_test false true p q = absurd (q tt)
same_test false false p q = refl

is_lt : (a b : ℕ) → a < b → true ≡ nat_lt a b
is_lt a b h = sym (is_true (nat_lt a b) (lt→ltb a b h))

is_ge : (a b : ℕ) → b ≤ a → false ≡ nat_lt a b
is_ge a b h = sym (is_false (nat_lt a b) (le→nltb a b h))

-- two finite sizes a / p and b / q, of k and l units
module _ (a p b q k l U : ℕ) (P : 0 < p) (Q : 0 < q) (u : 0 < U) (x : a * U ≡ k * p) (y : b * U ≡ l * q) where
  left : a * q * U ≡ k * (p * q)
  left = mul_right_comm a q U ∙ ap (λ (z : ℕ). z * q) x ∙ mul_assoc k p q

  right : b * p * U ≡ l * (p * q)
  right = mul_right_comm b p U ∙ ap (λ (z : ℕ). z * p) y ∙ mul_assoc l q p ∙ ap (λ (z : ℕ). l * z) (mul_comm q p)

  to_units : a * q < b * p → k < l
  to_units h = lt_of_mul-lt-mul_right (p * q) (lt_of_le_of_lt (le_of_eq (sym left)) (lt_of_lt_of_le (mul-lt-mul_of_pos_right h u) (le_of_eq right)))

  of_units : k < l → a * q < b * p
  of_units h = lt_of_mul-lt-mul_right U (lt_of_le_of_lt (le_of_eq left) (lt_of_lt_of_le (mul-lt-mul_of_pos_right h (mul-pos P Q)) (le_of_eq (sym right))))

  sizes : ltb (a * q) (b * p) ≡ nat_lt k l
  sizes = same_test (nat_lt (a * q) (b * p)) (nat_lt k l) (λ t. lt→ltb k l (to_units (ltb→lt (a * q) (b * p) t))) (λ t. lt→ltb (a * q) (b * p) (of_units (ltb→lt k l t)))

-- ---- where the keys of finite values lie
key_pos : (N n : ℕ) → n < N → (0 < N + 1 + n) × (N + 1 + n < 2 * N + 1)
key_pos N n h = omega arith

key_neg : (N n : ℕ) → n < N → (0 < N - n) × (N - n < 2 * N + 1)
key_neg N n h = omega arith

key_fin : (l N : ℕ) (s : Bool) (m : ℕ) (e : ℤ) → units_of l m e < N → (0 < key l N (fin s m e)) × (key l N (fin s m e) < 2 * N + 1)
unfolding key
key_fin l N true m e h = key_neg N (units_of l m e) h
key_fin l N false m e h = key_pos N (units_of l m e) h

over : (N k : ℕ) → k < 2 * N + 1 → k < 2 * N + 2
over N k h = omega arith

-- ---- `total_less` compares keys
either : (p q : Bool) → (p || ((q && true) && false) || false) ≡ p
either true q = refl
either false true = refl
either false false = refl

neither : (q r : Bool) → (false || ((q && (false || r)) && false) || false) ≡ false
neither true true = refl
neither true false = refl
neither false r = refl

first : (p q : Bool) → T p → (p || q || false) ≡ true
first true q t = refl
first false q t = absurd t

-- a negative and a positive value, or -0 and +0
minus_plus : (a b : ℕ) → (nat_lt 0 (a + b) || ((a == b && (false || a == 0)) && true) || false) ≡ true
minus_plus zero zero = refl
minus_plus zero (suc b) = first (nat_lt 0 (0 + suc b)) ((0 == suc b && (false || 0 == 0)) && true) (lt→ltb 0 (0 + suc b) (omega arith))
minus_plus (suc a) b = first (nat_lt 0 (suc a + b)) ((suc a == b && (false || suc a == 0)) && true) (lt→ltb 0 (suc a + b) (omega arith))

up-shift : (N k l : ℕ) → nat_lt k l ≡ nat_lt (N + 1 + k) (N + 1 + l)
up-shift N k l = same_test (nat_lt k l) (nat_lt (N + 1 + k) (N + 1 + l)) (λ t. lt→ltb (N + 1 + k) (N + 1 + l) (on k l (ltb→lt k l t))) (λ t. lt→ltb k l (off k l (ltb→lt (N + 1 + k) (N + 1 + l) t)))
  where
    on : (k l : ℕ) → k < l → N + 1 + k < N + 1 + l
    on k l h = omega arith

    off : (k l : ℕ) → N + 1 + k < N + 1 + l → k < l
    off k l h = omega arith

down-shift : (N k l : ℕ) → k < N → l < N → nat_lt l k ≡ nat_lt (N - k) (N - l)
down-shift N k l h g = same_test (nat_lt l k) (nat_lt (N - k) (N - l)) (λ t. lt→ltb (N - k) (N - l) (on (ltb→lt l k t))) (λ t. lt→ltb l k (off (ltb→lt (N - k) (N - l) t)))
  where
    on : l < k → N - k < N - l
    on u = omega arith

    off : N - k < N - l → l < k
    off u = omega arith

apart : (N k l : ℕ) → N - l ≤ N + 1 + k
apart N k l = omega arith

apart-lt : (N k l : ℕ) → N - l < N + 1 + k
apart-lt N k l = omega arith

fins : (l N : ℕ) (s : Bool) (m : ℕ) (e : ℤ) (t : Bool) (n : ℕ) (d : ℤ) → Serves l N (fin s m e) → Serves l N (fin t n d) → total_less (fin s m e) (fin t n d) ≡ nat_lt (key l N (fin s m e)) (key l N (fin t n d))
unfolding total_less key
fins l N false m e false n d f g =
    either (nat_lt (m * up e * down d) (n * up d * down e)) (m * up e * down d == n * up d * down e)
    ∙ sizes (m * up e) (down e) (n * up d) (down d) (units_of l m e) (units_of l n d) (2 ^ l) (down_pos e) (down_pos d) (pow_pos l) (exact l m e f.0) (exact l n d g.0)
    ∙ up-shift N (units_of l m e) (units_of l n d)
fins l N false m e true n d f g = neither (m * up e * down d == n * up d * down e) (m * up e * down d == 0) ∙ is_ge (N + 1 + units_of l m e) (N - units_of l n d) (apart N (units_of l m e) (units_of l n d))
fins l N true m e false n d f g = minus_plus (m * up e * down d) (n * up d * down e) ∙ is_lt (N - units_of l m e) (N + 1 + units_of l n d) (apart-lt N (units_of l n d) (units_of l m e))
fins l N true m e true n d f g =
    either (nat_lt (n * up d * down e) (m * up e * down d)) (m * up e * down d == n * up d * down e)
    ∙ sizes (n * up d) (down d) (m * up e) (down e) (units_of l n d) (units_of l m e) (2 ^ l) (down_pos d) (down_pos e) (pow_pos l) (exact l n d g.0) (exact l m e f.0)
    ∙ down-shift N (units_of l m e) (units_of l n d) f.1 g.1

by_key : (l N : ℕ) (x y : Float) → Serves l N x → Serves l N y → total_less x y ≡ nat_lt (key l N x) (key l N y)
unfolding total_less key
by_key l N nan nan f g = is_ge (2 * N + 2) (2 * N + 2) (omega arith)
by_key l N nan (inf true) f g = is_ge (2 * N + 2) 0 (omega arith)
by_key l N nan (inf false) f g = is_ge (2 * N + 2) (2 * N + 1) (omega arith)
by_key l N nan (fin t n d) f g = is_ge (2 * N + 2) (key l N (fin t n d)) (le_of_lt (over N (key l N (fin t n d)) (key_fin l N t n d g.1).1))
by_key l N (inf true) nan f g = is_lt 0 (2 * N + 2) (omega arith)
by_key l N (inf false) nan f g = is_lt (2 * N + 1) (2 * N + 2) (omega arith)
by_key l N (inf true) (inf true) f g = is_ge 0 0 (omega arith)
by_key l N (inf true) (inf false) f g = is_lt 0 (2 * N + 1) (omega arith)
by_key l N (inf false) (inf true) f g = is_ge (2 * N + 1) 0 (omega arith)
by_key l N (inf false) (inf false) f g = is_ge (2 * N + 1) (2 * N + 1) (omega arith)
by_key l N (inf true) (fin t n d) f g = is_lt 0 (key l N (fin t n d)) (key_fin l N t n d g.1).0
by_key l N (inf false) (fin t n d) f g = is_ge (2 * N + 1) (key l N (fin t n d)) (le_of_lt (key_fin l N t n d g.1).1)
by_key l N (fin s m e) nan f g = is_lt (key l N (fin s m e)) (2 * N + 2) (over N (key l N (fin s m e)) (key_fin l N s m e f.1).1)
by_key l N (fin s m e) (inf true) f g = is_ge (key l N (fin s m e)) 0 (le_of_lt (key_fin l N s m e f.1).0)
by_key l N (fin s m e) (inf false) f g = is_lt (key l N (fin s m e)) (2 * N + 1) (key_fin l N s m e f.1).1
by_key l N (fin s m e) (fin t n d) f g = fins l N s m e t n d f g

-- ---- for any three values there are an l and an N
abbrev depth : ℤ → ℕ
depth (pos k) = 0
depth (negsuc k) = suc k

down_is : (e : ℤ) → down e ≡ 2 ^ depth e
down_is (pos k) = refl
down_is (negsuc k) = refl

abbrev lowest : Float → ℕ
lowest nan = 0
lowest (inf s) = 0
lowest (fin s m e) = depth e

abbrev amount : ℕ → Float → ℕ
amount l nan = 0
amount l (inf s) = 0
amount l (fin s m e) = units_of l m e

serves : (l N : ℕ) (x : Float) → lowest x ≤ l → amount l x < N → Serves l N x
serves l N nan h k = tt
serves l N (inf s) h k = tt
serves l N (fin s m e) h k = (le_trans (le_of_eq (down_is e)) (pow_mono h), k)

in-first : (a b c : ℕ) → a ≤ a + b + c
in-first a b c = omega arith

in-second : (a b c : ℕ) → b ≤ a + b + c
in-second a b c = omega arith

in-third : (a b c : ℕ) → c ≤ a + b + c
in-third a b c = omega arith

module _ (x y z : Float) where
  abbrev l : ℕ
  l = lowest x + lowest y + lowest z

  abbrev N : ℕ
  N = suc (amount l x + amount l y + amount l z)

  x_serves : Serves l N x
  x_serves = serves l N x (in-first (lowest x) (lowest y) (lowest z)) (suc-le-suc (in-first (amount l x) (amount l y) (amount l z)))

  y_serves : Serves l N y
  y_serves = serves l N y (in-second (lowest x) (lowest y) (lowest z)) (suc-le-suc (in-second (amount l x) (amount l y) (amount l z)))

  z_serves : Serves l N z
  z_serves = serves l N z (in-third (lowest x) (lowest y) (lowest z)) (suc-le-suc (in-third (amount l x) (amount l y) (amount l z)))

less-key : (l N : ℕ) (x y : Float) → Serves l N x → Serves l N y → total_less x y ≡ true → key l N x < key l N y
less-key l N x y f g p = ltb→lt (key l N x) (key l N y) (subst T (sym (sym (by_key l N x y f g) ∙ p)) tt)

not-less-key : (l N : ℕ) (x y : Float) → Serves l N x → Serves l N y → total_less x y ≡ false → key l N y ≤ key l N x
not-less-key l N x y f g p = nltb→le (key l N x) (key l N y) (subst (λ (b : Bool). T (not b)) (sym (sym (by_key l N x y f g) ∙ p)) tt)

-- ---- the laws
pub total_less_irreflexive : (x : Float) → total_less x x ≡ false
total_less_irreflexive x = by_key (l x x x) (N x x x) x x (x_serves x x x) (x_serves x x x) ∙ sym (is_ge (key (l x x x) (N x x x) x) (key (l x x x) (N x x x) x) (le_of_eq refl))

chain : (a b c : ℕ) → a < b → b < c → a < c
chain a b c k l = omega arith

pub total_less_transitive : (x y z : Float) → total_less x y ≡ true → total_less y z ≡ true → total_less x z ≡ true
total_less_transitive x y z p q =
    let k = key (l x y z) (N x y z) in
    by_key (l x y z) (N x y z) x z (x_serves x y z) (z_serves x y z)
    ∙ sym (is_lt (k x) (k z) (chain (k x) (k y) (k z) (less-key (l x y z) (N x y z) x y (x_serves x y z) (y_serves x y z) p) (less-key (l x y z) (N x y z) y z (y_serves x y z) (z_serves x y z) q)))

pub total_less_asymmetric : (x y : Float) → total_less x y ≡ true → total_less y x ≡ false
total_less_asymmetric x y p = is_false (total_less y x) (not_T (total_less y x) (λ t. true≢false (sym (total_less_transitive x y x p (is_true (total_less y x) t)) ∙ total_less_irreflexive x)))

-- what is not less goes over too: "x is not after y" is a total preorder
pub not-total_less_transitive : (x y z : Float) → total_less y x ≡ false → total_less z y ≡ false → total_less z x ≡ false
not-total_less_transitive x y z p q =
    let k = key (l x y z) (N x y z) in
    by_key (l x y z) (N x y z) z x (z_serves x y z) (x_serves x y z)
    ∙ sym (is_ge (k z) (k x) (le_trans (not-less-key (l x y z) (N x y z) y x (y_serves x y z) (x_serves x y z) p) (not-less-key (l x y z) (N x y z) z y (z_serves x y z) (y_serves x y z) q)))

-- two finite values of one sign with as many units are one value
up_cancel : (N k l : ℕ) → N + 1 + k ≡ N + 1 + l → k ≡ l
up_cancel N k l h = omega arith

down_cancel : (N k l : ℕ) → k < N → l < N → N - k ≡ N - l → k ≡ l
down_cancel N k l a b h = omega arith

units_same : (l N : ℕ) (s : Bool) (m : ℕ) (e : ℤ) (n : ℕ) (d : ℤ) → Serves l N (fin s m e) → Serves l N (fin s n d) → key l N (fin s m e) ≡ key l N (fin s n d) → units_of l m e ≡ units_of l n d
unfolding key
units_same l N false m e n d f g h = up_cancel N (units_of l m e) (units_of l n d) h
units_same l N true m e n d f g h = down_cancel N (units_of l m e) (units_of l n d) f.1 g.1 h

one_sign : (r : Format) (s : Bool) (m : ℕ) (e : ℤ) (n : ℕ) (d : ℤ) → T (fits r (fin s m e)) → T (fits r (fin s n d)) → total_less (fin s m e) (fin s n d) ≡ false → total_less (fin s n d) (fin s m e) ≡ false → fin s m e ≡ fin s n d
one_sign r s m e n d f g p q =
    let x = fin s m e in
    let y = fin s n d in
    let a = l x y y in
    let N = N x y y in
    let u = x_serves x y y in
    let v = y_serves x y y in
    let w : units_of a m e ≡ units_of a n d = units_same a N s m e n d u v (le_antisymm (not-less-key a N y x v u q) (not-less-key a N x y u v p)) in
    value_unique r x y s (units_of a m e) (2 ^ a) (pow_pos a) f g (refl, exact a m e u.0) (refl, exact a n d v.0 ∙ ap (λ (k : ℕ). k * down d) (sym w))

-- two values neither of which is less than the other are the same data
pub total_less_connected : (r : Format) (x y : Float) → T (fits r x) → T (fits r y) → total_less x y ≡ false → total_less y x ≡ false → x ≡ y
unfolding total_less
total_less_connected r nan nan f g p q = refl
total_less_connected r nan (inf t) f g p q = absurd (true≢false q)
total_less_connected r nan (fin t n d) f g p q = absurd (true≢false q)
total_less_connected r (inf s) nan f g p q = absurd (true≢false p)
total_less_connected r (inf true) (inf true) f g p q = refl
total_less_connected r (inf true) (inf false) f g p q = absurd (true≢false p)
total_less_connected r (inf false) (inf true) f g p q = absurd (true≢false q)
total_less_connected r (inf false) (inf false) f g p q = refl
total_less_connected r (inf true) (fin t n d) f g p q = absurd (true≢false p)
total_less_connected r (inf false) (fin t n d) f g p q = absurd (true≢false q)
total_less_connected r (fin s m e) nan f g p q = absurd (true≢false p)
total_less_connected r (fin s m e) (inf true) f g p q = absurd (true≢false q)
total_less_connected r (fin s m e) (inf false) f g p q = absurd (true≢false p)
total_less_connected r (fin false m e) (fin false n d) f g p q = one_sign r false m e n d f g p q
total_less_connected r (fin false m e) (fin true n d) f g p q = absurd (true≢false (sym (minus_plus (n * up d * down e) (m * up e * down d)) ∙ q))
total_less_connected r (fin true m e) (fin false n d) f g p q = absurd (true≢false (sym (minus_plus (m * up e * down d) (n * up d * down e)) ∙ p))
total_less_connected r (fin true m e) (fin true n d) f g p q = one_sign r true m e n d f g p q

-- ---- the three answers
pub ordered-less : (x y : Float) → total_less x y ≡ true → ordered x y ≡ Less
unfolding ordered
ordered-less x y p = ap (λ (b : Bool). cond b Less (cond (total_less y x) Greater Equal)) p

pub ordered-greater : (x y : Float) → total_less x y ≡ false → total_less y x ≡ true → ordered x y ≡ Greater
unfolding ordered
ordered-greater x y p q = ap (λ (b : Bool). cond b Less (cond (total_less y x) Greater Equal)) p ∙ ap (λ (b : Bool). cond b Greater Equal) q

pub ordered_equal : (x y : Float) → total_less x y ≡ false → total_less y x ≡ false → ordered x y ≡ Equal
unfolding ordered
ordered_equal x y p q = ap (λ (b : Bool). cond b Less (cond (total_less y x) Greater Equal)) p ∙ ap (λ (b : Bool). cond b Greater Equal) q
