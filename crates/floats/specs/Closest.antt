-- `closest a u`, the whole number that rounding takes for a / u, is a nearest one, and where two are equally near the even one. Assumes nothing.
use Rattle.std.specs.Prelude.{◌≡◌, ℕ, suc, ◌+◌, ◌-◌, ◌*◌, ◌/◌, ◌%◌, ◌<◌, ◌≤◌, T, ◌⊎◌, refl}
use Rattle.std.proofs.Common.{sym, ap, ◌∙◌, subst, inl, inr, le_refl, le_trans, le_of_lt, lt_irrefl, lt_of_lt_of_le, not-le_of_lt, mod-lt, mul-le-mul_right, add-mul, one-mul, div-add-mod', arith, leb→le, eqb→eq, le→leb}
use Prim.Native.Nat.{compare, Ordering}
use Rattle.std.proofs.Math.Decide.{dec_lt}
use Rattle.std.proofs.Math.Dec.{is_le, compare_is_eq}
use Rattle.std.specs.Float.Ieee.{nearest}
use Rattle.std.specs.Float.Ieee.Fits.{eq→eqb}
use Rattle.std.specs.Float.Ieee.Nearest.{closest}

-- ---- `compare`, by what holds
pub compare_lt : (a b : ℕ) → a < b → compare a b ≡ Ordering.lt
compare_lt a b h = go (compare a b) (le→leb a b (le_of_lt h)) (λ (t : T (compare_is_eq (compare a b))). lt_irrefl b (subst (λ (x : ℕ). x < b) (eqb→eq a b t) h))
  where
    go : (o : Ordering) → T (is_le o) → (T (compare_is_eq o) → ⊥) → o ≡ Ordering.lt
    go Ordering.lt l e = refl
    go Ordering.eq l e = absurd (e tt)
    go Ordering.gt l e = absurd l

compare_eq : (a b : ℕ) → a ≡ b → compare a b ≡ Ordering.eq
compare_eq a b h = go (compare a b) (eq→eqb h)
  where
    go : (o : Ordering) → T (compare_is_eq o) → o ≡ Ordering.eq
    go Ordering.lt e = absurd e
    go Ordering.eq e = refl
    go Ordering.gt e = absurd e

compare_gt : (a b : ℕ) → b < a → compare a b ≡ Ordering.gt
compare_gt a b h = go (compare a b) (λ (t : T (is_le (compare a b))). not-le_of_lt h (leb→le a b t))
  where
    go : (o : Ordering) → (T (is_le o) → ⊥) → o ≡ Ordering.gt
    go Ordering.lt l = absurd (l tt)
    go Ordering.eq l = absurd (l tt)
    go Ordering.gt l = refl

-- ---- `closest`, by how twice the remainder compares with the divisor
pub closest_lt : (a b : ℕ) → a % b * 2 < b → closest a b ≡ a / b
closest_lt a b h = ap (nearest (a / b)) (compare_lt (a % b * 2) b h)

pub closest_eq : (a b : ℕ) → a % b * 2 ≡ b → closest a b ≡ a / b + a / b % 2
closest_eq a b h = ap (nearest (a / b)) (compare_eq (a % b * 2) b h)

pub closest_gt : (a b : ℕ) → b < a % b * 2 → closest a b ≡ suc (a / b)
closest_gt a b h = ap (nearest (a / b)) (compare_gt (a % b * 2) b h)

-- ---- |a - b|
abbrev pub gap : ℕ → ℕ → ℕ
gap a b = (a - b) + (b - a)

-- q * u is a multiple of u that is nearest to a, and where another is as near q is even
pub record Closest (a u q : ℕ) : Type 0 where
  pub near : (y : ℕ) → gap a (q * u) ≤ gap a (y * u)
  pub even : (y : ℕ) → gap a (y * u) ≤ gap a (q * u) → (y ≡ q) ⊎ (q % 2 ≡ 0)

-- multiples of u are u apart
apart : (y q u : ℕ) → y < q → y * u + u ≤ q * u
apart y q u h = subst (λ (n : ℕ). n ≤ q * u) (step y u) (mul-le-mul_right {m = y + 1} {n = q} u (more y q h))
  where
    more : (y q : ℕ) → y < q → y + 1 ≤ q
    more y q h = omega arith

    step : (y u : ℕ) → (y + 1) * u ≡ y * u + u
    step y u = add-mul y 1 u ∙ ap (λ (n : ℕ). y * u + n) (one-mul u)

-- less than half a divisor above q * u: every other multiple is farther
module _ (a q r u : ℕ) (e : q * u + r ≡ a) where
  under : r * 2 < u → (y : ℕ) → (y ≡ q) ⊎ (gap a (q * u) < gap a (y * u))
  under h y = go (dec_lt y q) (dec_lt q y)
    where
      left : (Q Y : ℕ) → Q + r ≡ a → Y + u ≤ Q → gap a Q < gap a Y
      left Q Y e k = omega arith

      right : (Q Y : ℕ) → Q + r ≡ a → Q + u ≤ Y → gap a Q < gap a Y
      right Q Y e k = omega arith

      go : Dec (y < q) → Dec (q < y) → (y ≡ q) ⊎ (gap a (q * u) < gap a (y * u))
      go (yes p) d = inr (left (q * u) (y * u) e (apart y q u p))
      go (no p) (yes k) = inr (right (q * u) (y * u) e (apart q y u k))
      go (no p) (no k) = inl (omega arith)

  -- more than half: every multiple but the next is farther than the next
  over : u < r * 2 → r < u → (y : ℕ) → (y ≡ suc q) ⊎ (gap a (suc q * u) < gap a (y * u))
  over h l y = go (dec_lt q y) (dec_lt (suc q) y)
    where
      next : suc q * u ≡ q * u + u
      next = omega arith

      left : (Q N Y : ℕ) → N ≡ Q + u → Q + r ≡ a → Y ≤ Q → gap a N < gap a Y
      left Q N Y n e k = omega arith

      right : (Q N Y : ℕ) → N ≡ Q + u → Q + r ≡ a → N + u ≤ Y → gap a N < gap a Y
      right Q N Y n e k = omega arith

      go : Dec (q < y) → Dec (suc q < y) → (y ≡ suc q) ⊎ (gap a (suc q * u) < gap a (y * u))
      go (no p) d = inr (left (q * u) (suc q * u) (y * u) next e (mul-le-mul_right {m = y} {n = q} u (omega arith)))
      go (yes p) (yes k) = inr (right (q * u) (suc q * u) (y * u) next e (apart (suc q) y u k))
      go (yes p) (no k) = inl (omega arith)

  -- exactly half: none is nearer than q * u and the next
  half : r * 2 ≡ u → (y : ℕ) → r ≤ gap a (y * u)
  half h y = go (dec_lt q y)
    where
      left : (Q Y : ℕ) → Q + r ≡ a → Y ≤ Q → r ≤ gap a Y
      left Q Y e k = omega arith

      right : (Q Y : ℕ) → Q + r ≡ a → Q + u ≤ Y → r ≤ gap a Y
      right Q Y e k = omega arith

      go : Dec (q < y) → r ≤ gap a (y * u)
      go (no p) = left (q * u) (y * u) e (mul-le-mul_right {m = y} {n = q} u (omega arith))
      go (yes p) = right (q * u) (y * u) e (apart q y u p)

-- a number that every other is farther than
only : (a u q : ℕ) → ((y : ℕ) → (y ≡ q) ⊎ (gap a (q * u) < gap a (y * u))) → Closest a u q
only a u q h = record { near = λ y. near y (h y); even = λ y k. even y k (h y) }
  where
    near : (y : ℕ) → (y ≡ q) ⊎ (gap a (q * u) < gap a (y * u)) → gap a (q * u) ≤ gap a (y * u)
    near y (inl e) = subst (λ (z : ℕ). gap a (q * u) ≤ gap a (z * u)) (sym e) (le_refl (gap a (q * u)))
    near y (inr k) = le_of_lt k

    even : (y : ℕ) → gap a (y * u) ≤ gap a (q * u) → (y ≡ q) ⊎ (gap a (q * u) < gap a (y * u)) → (y ≡ q) ⊎ (q % 2 ≡ 0)
    even y k (inl e) = inl e
    even y k (inr l) = absurd (lt_irrefl (gap a (q * u)) (lt_of_lt_of_le l k))

tied : (a q r u : ℕ) → q * u + r ≡ a → r * 2 ≡ u → Closest a u (q + q % 2)
tied a q r u e h = record { near = λ y. le_trans far (half a q r u e h y); even = λ y k. inr (parity q) }
  where
    parity : (q : ℕ) → (q + q % 2) % 2 ≡ 0
    parity q = omega arith

    at : (q b Q B N a r u : ℕ) → Q + r ≡ a → r * 2 ≡ u → N ≡ Q + B → (B ≡ 0) ⊎ (B ≡ u) → gap a N ≤ r
    at q b Q B N a r u e h n (inl k) = omega arith
    at q b Q B N a r u e h n (inr k) = omega arith

    bit : (b : ℕ) → b < 2 → (b * u ≡ 0) ⊎ (b * u ≡ u)
    bit b l = go (dec_lt 0 b)
      where
        go : Dec (0 < b) → (b * u ≡ 0) ⊎ (b * u ≡ u)
        go (yes p) = let z : b ≡ 1 = omega arith in inr (ap (λ (x : ℕ). x * u) z ∙ one-mul u)
        go (no p) = let z : b ≡ 0 = omega arith in inl (ap (λ (x : ℕ). x * u) z ∙ (let t : 0 * u ≡ 0 = omega arith in t))

    far : gap a ((q + q % 2) * u) ≤ r
    far = at q (q % 2) (q * u) (q % 2 * u) ((q + q % 2) * u) a r u e h (add-mul q (q % 2) u) (bit (q % 2) (omega arith))

pub closest_is : (a u : ℕ) → 0 < u → Closest a u (closest a u)
closest_is a u p = go (dec_lt (a % u * 2) u) (dec_lt u (a % u * 2))
  where
    parts : a / u * u + a % u ≡ a
    parts = div-add-mod' a u

    go : Dec (a % u * 2 < u) → Dec (u < a % u * 2) → Closest a u (closest a u)
    go (yes h) d = subst (Closest a u) (sym (closest_lt a u h)) (only a u (a / u) (under a (a / u) (a % u) u parts h))
    go (no h) (yes k) = subst (Closest a u) (sym (closest_gt a u k)) (only a u (suc (a / u)) (over a (a / u) (a % u) u parts k (mod-lt a p)))
    go (no h) (no k) = let z : a % u * 2 ≡ u = omega arith in subst (Closest a u) (sym (closest_eq a u z)) (tied a (a / u) (a % u) u parts z)
