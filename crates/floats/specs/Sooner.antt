-- The order by start, then by the lower number (`sooner`): a strict order on all pairs, total where the numbers differ, and its "not after" a total preorder.
use Rattle.std.specs.Prelude.{◌≡◌, ℕ, ◌<◌, ◌≤◌, Bool, true, false, cond, not, ◌&&◌, ◌||◌, T, ◌≢◌, ◌⊎◌, nat_lt, refl, Float}
use Rattle.std.proofs.Common.{sym, ap, ◌∙◌, inl, inr, true≢false, le_trans, arith, ltb→lt, lt→ltb, nltb→le}
use Rattle.std.proofs.lemmas.Bool.{false≢true}
use Rattle.std.specs.Float.Ieee.Bits.{is_true}
use Rattle.floats.specs.Floats.{total_less, sooner}
use Rattle.floats.specs.Ordered.{ordered}
use Rattle.floats.specs.TotalOrder.{total_less_asymmetric, not-total_less_transitive}
use Rattle.std.specs.declared.cmp.Ordering.{Ordering}
use Rattle.std.specs.declared.cmp.Ordering.TheVariants.{Less, Equal, Greater}

-- the answer of `total_cmp`, and at Equal the numbers
abbrev pub tied : Ordering → Bool → Bool
tied Less b = true
tied Equal b = b
tied Greater b = false

pub sooner-ordered : (x : Float) (i : ℕ) (y : Float) (j : ℕ) → tied (ordered x y) (nat_lt i j) ≡ sooner x i y j
unfolding sooner ordered
sooner-ordered x i y j = go (total_less x y) (total_less y x) (nat_lt i j)
  where
    go : (p q b : Bool) → tied (cond p Less (cond q Greater Equal)) b ≡ (p || (not q && b))
    go true q b = refl
    go false true b = refl
    go false false b = refl

-- ---- what a passed and a failed test say
abbrev Yes : Float → ℕ → Float → ℕ → Type 0
Yes x i y j = (total_less x y ≡ true) ⊎ ((total_less y x ≡ false) × (i < j))

abbrev No : Float → ℕ → Float → ℕ → Type 0
No x i y j = (total_less x y ≡ false) × (total_less y x ≡ false → j ≤ i)

says : (x : Float) (i : ℕ) (y : Float) (j : ℕ) → sooner x i y j ≡ true → Yes x i y j
unfolding sooner
says x i y j h = go (total_less x y) (total_less y x) (nat_lt i j) refl refl (ltb→lt i j) h
  where
    go : (p q b : Bool) → total_less x y ≡ p → total_less y x ≡ q → (T b → i < j) → (p || (not q && b)) ≡ true → Yes x i y j
    go true q b a c l h = inl a
    go false true b a c l h = absurd (false≢true h)
    go false false true a c l h = inr (c, l tt)
    go false false false a c l h = absurd (false≢true h)

denies : (x : Float) (i : ℕ) (y : Float) (j : ℕ) → sooner x i y j ≡ false → No x i y j
unfolding sooner
denies x i y j h = go (total_less x y) (total_less y x) (nat_lt i j) refl refl (nltb→le i j) h
  where
    go : (p q b : Bool) → total_less x y ≡ p → total_less y x ≡ q → (T (not b) → j ≤ i) → (p || (not q && b)) ≡ false → No x i y j
    go true q b a c l h = absurd (true≢false h)
    go false true b a c l h = (a, λ z. absurd (true≢false (sym c ∙ z)))
    go false false true a c l h = absurd (true≢false h)
    go false false false a c l h = (a, λ z. l tt)

by_yes : (x : Float) (i : ℕ) (y : Float) (j : ℕ) → Yes x i y j → sooner x i y j ≡ true
unfolding sooner
by_yes x i y j (inl p) = ap (λ (t : Bool). t || (not (total_less y x) && nat_lt i j)) p
by_yes x i y j (inr r) = ap (λ (t : Bool). total_less x y || (not t && nat_lt i j)) r.0 ∙ ap (λ (t : Bool). total_less x y || t) (is_true (nat_lt i j) (lt→ltb i j r.1)) ∙ last (total_less x y)
  where
    last : (p : Bool) → (p || true) ≡ true
    last true = refl
    last false = refl

by_no : (x : Float) (i : ℕ) (y : Float) (j : ℕ) → No x i y j → sooner x i y j ≡ false
by_no x i y j r = go (sooner x i y j) refl
  where
    clash : Yes x i y j → ⊥
    clash (inl p) = true≢false (sym p ∙ r.0)
    clash (inr q) = let k = r.1 q.0 in let l = q.1 in omega arith

    go : (t : Bool) → sooner x i y j ≡ t → t ≡ false
    go true h = absurd (clash (says x i y j h))
    go false h = refl

-- ---- the laws
pub not-sooner_transitive : (x : Float) (i : ℕ) (y : Float) (j : ℕ) (z : Float) (k : ℕ) → sooner y j x i ≡ false → sooner z k y j ≡ false → sooner z k x i ≡ false
not-sooner_transitive x i y j z k p q =
    let a = denies y j x i p in
    let b = denies z k y j q in
    by_no z k x i (not-total_less_transitive x y z a.0 b.0, λ c. le_trans (a.1 (not-total_less_transitive y z x b.0 c)) (b.1 (not-total_less_transitive z x y c a.0)))

pub sooner_asymmetric : (x : Float) (i : ℕ) (y : Float) (j : ℕ) → sooner x i y j ≡ true → sooner y j x i ≡ false
sooner_asymmetric x i y j h = by_no y j x i (go (says x i y j h))
  where
    go : Yes x i y j → No y j x i
    go (inl p) = (total_less_asymmetric x y p, λ z. absurd (true≢false (sym p ∙ z)))
    go (inr r) = (r.0, λ z. let l = r.1 in omega arith)

-- of two pairs with different numbers one is sooner
pub sooner-total : (x : Float) (i : ℕ) (y : Float) (j : ℕ) → i ≢ j → sooner x i y j ≡ false → sooner y j x i ≡ true
sooner-total x i y j n h = go (total_less y x) refl (denies x i y j h)
  where
    go : (t : Bool) → total_less y x ≡ t → No x i y j → sooner y j x i ≡ true
    go true e r = by_yes y j x i (inl e)
    go false e r = by_yes y j x i (inr (r.0, below (r.1 e)))
      where
        below : j ≤ i → j < i
        below l = omega arith

pub sooner_transitive : (x : Float) (i : ℕ) (y : Float) (j : ℕ) (z : Float) (k : ℕ) → sooner x i y j ≡ true → sooner y j z k ≡ true → sooner x i z k ≡ true
sooner_transitive x i y j z k p q = go (sooner x i z k) refl
  where
    -- were x not sooner than z, then z would not be after x, nor x after y: so z would not be after y
    go : (t : Bool) → sooner x i z k ≡ t → t ≡ true
    go true h = refl
    go false h = absurd (true≢false (sym q ∙ not-sooner_transitive z k x i y j h (sooner_asymmetric x i y j p)))
