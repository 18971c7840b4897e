-- A list that a function of its places gives, and four places in a row.
use mathlib.Core.List.{List, [], ◌∷◌}
use Rattle.std.specs.Prelude.{◌≢◌, ◌≡◌, get_or, set, length}
use Rattle.std.proofs.Math.Path.{refl, ap, ap₂}
use Rattle.std.proofs.Common.{◌∙◌, arith, length-set, get_or-set_same, get_or-set_other}
use Prim.Native.Nat.{ℕ, zero, suc, ◌+◌, ◌≤◌, ◌<◌}

module _ {A : Type 0} where
  -- g at the n places from i on
  unfoldable pub rows : (ℕ → A) → (i n : ℕ) → List A
  rows g i zero = []
  rows g i (suc n) = g i ∷ rows g (suc i) n

  -- a, b, c and d at i and behind it
  abbrev pub set4 : List A → (i : ℕ) → (a b c d : A) → List A
  set4 l i a b c d = set (set (set (set l i a) (i + 1) b) (i + 2) c) (i + 3) d

  -- ---- rows

  pub rows_get : (g : ℕ → A) (i n k : ℕ) (d : A) → k < n → get_or (rows g i n) k d ≡ g (i + k)
  unfolding rows
  rows_get g i zero k d h = absurd (omega arith)
  rows_get g i (suc n) zero d h = ap g (omega arith)
  rows_get g i (suc n) (suc k) d h = rows_get g (suc i) n k d (omega arith) ∙ ap g (omega arith)

  pub rows_same : (g h : ℕ → A) (i n : ℕ) → ((j : ℕ) → i ≤ j → j < i + n → h j ≡ g j) → rows h i n ≡ rows g i n
  unfolding rows
  rows_same g h i zero e = refl
  rows_same g h i (suc n) e = ap₂ {C = List A} (λ x xs. x ∷ xs) (e i (omega arith) (omega arith))
      (rows_same g h (suc i) n (λ j p q. e j (omega arith) (omega arith)))

  pub rows-set : (g h : ℕ → A) (i n k : ℕ) (x : A) → k < n → h (i + k) ≡ x → ((j : ℕ) → i ≤ j → j < i + n → j ≢ i + k → h j ≡ g j) → rows h i n
      ≡ set (rows g i n) k x
  unfolding rows
  rows-set g h i zero k x l s e = absurd (omega arith)
  rows-set g h i (suc n) zero x l s e = ap₂ {C = List A} (λ y ys. y ∷ ys) (ap h (omega arith)
      ∙ s) (rows_same g h (suc i) n (λ j p q. e j (omega arith) (omega arith) (λ z. absurd (omega (arith, z)))))
  rows-set g h i (suc n) (suc k) x l s e =
      ap₂ {C = List A} (λ y ys. y ∷ ys) (e i (omega arith) (omega arith) (λ z. absurd (omega (arith, z))))
      (rows-set g h (suc i) n k x (omega arith) (ap h (omega arith) ∙ s) (λ j p q w. e j (omega arith) (omega arith) (λ z. w (omega (arith, z)))))

  -- ---- four places

  pub length_set4 : (l : List A) (i : ℕ) (a b c d : A) → length (set4 l i a b c d) ≡ length l
  length_set4 l i a b c d = length-set (set (set (set l i a) (i + 1) b) (i + 2) c) (i + 3) d ∙ length-set (set (set l i a) (i + 1) b) (i + 2) c
      ∙ length-set (set l i a) (i + 1) b ∙ length-set l i a

  pub set4_other : (l : List A) (i : ℕ) (a b c d : A) (j : ℕ) (z : A) → j ≢ i → j ≢ i + 1 → j ≢ i + 2 → j ≢ i + 3 → get_or (set4 l i a b c d) j z ≡ get_or l j z
  set4_other l i a b c d j z p q r s =
      get_or-set_other (set (set (set l i a) (i + 1) b) (i + 2) c) (i + 3) j d z s ∙ get_or-set_other (set (set l i a) (i + 1) b) (i + 2) j c z r
      ∙ get_or-set_other (set l i a) (i + 1) j b z q ∙ get_or-set_other l i j a z p

  module _ (l : List A) (i : ℕ) (a b c d z : A) (h : i + 3 < length l) where
    pub set4-0 : get_or (set4 l i a b c d) i z ≡ a
    set4-0 =
        get_or-set_other (set (set (set l i a) (i + 1) b) (i + 2) c) (i + 3) i d z (λ q. absurd (omega (arith, q)))
        ∙ get_or-set_other (set (set l i a) (i + 1) b) (i + 2) i c z (λ q. absurd (omega (arith, q)))
        ∙ get_or-set_other (set l i a) (i + 1) i b z (λ q. absurd (omega (arith, q))) ∙ get_or-set_same l i a z (omega arith)

    pub set4-1 : get_or (set4 l i a b c d) (i + 1) z ≡ b
    set4-1 =
        get_or-set_other (set (set (set l i a) (i + 1) b) (i + 2) c) (i + 3) (i + 1) d z (λ q. absurd (omega (arith, q)))
        ∙ get_or-set_other (set (set l i a) (i + 1) b) (i + 2) (i + 1) c z (λ q. absurd (omega (arith, q)))
        ∙ get_or-set_same (set l i a) (i + 1) b z (omega (arith, length-set l i a))

    pub set4-2 : get_or (set4 l i a b c d) (i + 2) z ≡ c
    set4-2 =
        get_or-set_other (set (set (set l i a) (i + 1) b) (i + 2) c) (i + 3) (i + 2) d z (λ q. absurd (omega (arith, q)))
        ∙ get_or-set_same (set (set l i a) (i + 1) b) (i + 2) c z (omega (arith, length-set (set l i a) (i + 1) b, length-set l i a))

    pub set4-3 : get_or (set4 l i a b c d) (i + 3) z ≡ d
    set4-3 = get_or-set_same (set (set (set l i a) (i + 1) b) (i + 2) c) (i + 3) d z
        (omega (arith, length-set (set (set l i a) (i + 1) b) (i + 2) c, length-set (set l i a) (i + 1) b, length-set l i a))
