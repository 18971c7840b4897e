-- The f32 sum of two numbers, by whatever fractions over one divisor they are. Assumes nothing.
use Rattle.std.specs.Prelude.{◌≡◌, refl, Bool, true, false, ◌&&◌, ℕ, ◌+◌, ◌-◌, ◌*◌, ◌<◌, T, ltb, Float}
use Rattle.std.proofs.Common.{sym, ap, ◌∙◌, mul_assoc, mul_comm, mul_right_comm, add-mul, mul-pos, mul-lt-mul_of_pos_right, lt_of_mul-lt-mul_right, ltb→lt, lt→ltb}
use Rattle.std.proofs.Math.Nat.{mul-sub}
use Rattle.std.specs.Float.{nan, inf, fin, Format}
use Rattle.std.specs.Float.Ieee.{up, down, sum, add}
use Rattle.std.specs.Float.Ieee.Fits.{down_pos}
use Rattle.std.specs.Float.Ieee.Exact.{HasValue}
use Rattle.std.specs.Float.Ieee.Scale.{round_same}

-- two tests that imply each other
agree : (p q : Bool) → (T p → T q) → (T q → T p) → p ≡ q
agree true true f g = refl
agree true false f g = absurd (f tt)
agree false true f g = absurd (g tt)
agree false false f g = refl

sub-mul : (a b c : ℕ) → (a - b) * c ≡ a * c - b * c
sub-mul a b c = rw (mul_comm (a - b) c, mul-sub c a b, mul_comm c a, mul_comm c b)

-- a / c < b / c as a' / c' < b' / c'
module _ (a b c a' b' c' : ℕ) (C : 0 < c) (C' : 0 < c') (p : a' * c ≡ a * c') (q : b' * c ≡ b * c') where
  onward : a' < b' → a < b
  onward h = lt_of_mul-lt-mul_right c' (rw (p, q) at (mul-lt-mul_of_pos_right h C))

  back : a < b → a' < b'
  back h = lt_of_mul-lt-mul_right c (rw (sym p, sym q) at (mul-lt-mul_of_pos_right h C'))

  ltb_same : ltb a' b' ≡ ltb a b
  ltb_same = agree (ltb a' b') (ltb a b) (λ t. lt→ltb a b (onward (ltb→lt a' b' t))) (λ t. lt→ltb a' b' (back (ltb→lt a b t)))

  difference : (b' - a') * c ≡ (b - a) * c'
  difference = rw (sub-mul b' a' c, sub-mul b a c', p, q)

sum_same : (f : Format) (s t : Bool) (a b c a' b' c' : ℕ) → 0 < c → 0 < c' → a' * c ≡ a * c' → b' * c ≡ b * c' → sum f s a' t b' c' ≡ sum f s a t b c
unfolding sum
sum_same f s t a b c a' b' c' C C' p q =
    let e : (a' + b') * c ≡ (a + b) * c' = rw (add-mul a' b' c, add-mul a b c', p, q) in
    let alike = round_same f s (a' + b') c' (a + b) c C' C e in
    let below = round_same f t (b' - a') c' (b - a) c C' C (difference a b c a' b' c' C C' p q) in
    let sign : Bool = s && ltb b a in
    let above = round_same f sign (a' - b') c' (a - b) c C' C (difference b a c b' a' c' C C' q p) in
    rw (alike, below, ltb_same a b c a' b' c' C C' p q, ltb_same b a c b' a' c' C C' q p, above)

pub add_at : (f : Format) (x y : Float) (s t : Bool) (a b c : ℕ) → 0 < c → HasValue x s a c → HasValue y t b c → add f x y ≡ sum f s a t b c
unfolding add
add_at f nan y s t a b c C h k = absurd h
add_at f (inf u) y s t a b c C h k = absurd h
add_at f (fin u m e) nan s t a b c C h k = absurd k
add_at f (fin u m e) (inf v) s t a b c C h k = absurd k
add_at f (fin u m e) (fin v n d) s t a b c C h k =
    let p : m * up e * down d * c ≡ a * (down e * down d) =
    mul_right_comm (m * up e) (down d) c ∙ ap (λ (x : ℕ). x * down d) h.1 ∙ mul_assoc a (down e) (down d) in
    let q : n * up d * down e * c ≡ b * (down e * down d) =
    mul_right_comm (n * up d) (down e) c ∙ ap (λ (x : ℕ). x * down e) k.1 ∙ mul_right_comm b (down d) (down e) ∙ mul_assoc b (down e) (down d) in
    ap (λ (x : Bool). sum f x (m * up e * down d) v (n * up d * down e) (down e * down d)) h.0
    ∙ ap (λ (x : Bool). sum f s (m * up e * down d) x (n * up d * down e) (down e * down d)) k.0
    ∙ sum_same f s t a b c (m * up e * down d) (n * up d * down e) (down e * down d) C (mul-pos (down_pos e) (down_pos d)) p q
