-- How many levels an element rises in a heap (document 02, Paper 13), as the loops of a push count them. Assumes nothing.
use Rattle.std.specs.Prelude.{Bool, true, false, ◌&&◌, cond, ◌≡◌, List, ltb, get_or, set}
use Rattle.std.proofs.Math.Bool.{and-false}
use Rattle.std.proofs.Math.Path.{refl}
use Rattle.std.proofs.Common.{sym, ap, ◌∙◌, arith, get_or-set_other, lt-ltb, le-ltb}
use Prim.Native.Nat.{ℕ, zero, suc, ◌+◌, ◌≤◌, ◌<◌}
use Rattle.ready.specs.Sift.{parent}

module _ {A : Type 0} (less : A → A → Bool) (z : A) where
  -- e goes up from place i: past each parent that it leaves before, up to the first that it does not
  unfoldable pub levels : (f : ℕ) → List A → (i : ℕ) → A → ℕ
  levels zero xs i e = 0
  levels (suc f) xs i e =
      let r = levels f xs (parent i) e in
      cond (ltb 0 i && less e (get_or xs (parent i) z)) (suc r) 0

  -- ---- one step, and where it stops

  pub levels_root : (f : ℕ) (xs : List A) (i : ℕ) (e : A) → i ≤ 0 → levels f xs i e ≡ 0
  unfolding levels
  levels_root zero xs i e h = refl
  levels_root (suc f) xs i e h = rw (le-ltb 0 i h)

  pub levels_stop : (f : ℕ) (xs : List A) (i : ℕ) (e : A) → less e (get_or xs (parent i) z) ≡ false → levels f xs i e ≡ 0
  unfolding levels
  levels_stop zero xs i e h = refl
  levels_stop (suc f) xs i e h = rw (h, and-false (ltb 0 i))

  pub levels-turn : (f : ℕ) (xs : List A) (i : ℕ) (e : A) → 0 < i → less e (get_or xs (parent i) z) ≡ true → levels (suc f) xs i e ≡ suc (levels f xs (parent i) e)
  unfolding levels
  levels-turn f xs i e p h = rw (lt-ltb 0 i p, h)

  -- ---- a loop that counts them: it began with xs and its free place is i; below i its list ys is xs, it has counted k, and with what is left this gives the total

  pub record Counting (xs ys : List A) (i : ℕ) (e : A) (k total : ℕ) : Type 0 where
    pub same : (j : ℕ) → j < i → get_or ys j z ≡ get_or xs j z
    pub fuel : ℕ
    pub enough : i ≤ fuel
    pub gives : k + levels fuel xs i e ≡ total

  module _ {xs ys : List A} {i : ℕ} {e : A} {k total : ℕ} where
    pub counting_on : 0 < i → less e (get_or ys (parent i) z) ≡ true → Counting xs ys i e k total → Counting xs (set ys i (get_or ys (parent i) z)) (parent i) e (k + 1) total
    counting_on p h c = go c.fuel c.enough c.gives
      where
        later : less e (get_or xs (parent i) z) ≡ true
        later = ap (less e) (sym (c.same (parent i) (omega arith))) ∙ h

        go : (f : ℕ) → i ≤ f → k + levels f xs i e ≡ total → Counting xs (set ys i (get_or ys (parent i) z)) (parent i) e (k + 1) total
        go zero l g = absurd (omega arith)
        go (suc f) l g = record {
          same = λ j q. get_or-set_other ys i j (get_or ys (parent i) z) z (omega arith) ∙ c.same j (omega arith);
          fuel = f;
          enough = omega arith;
          gives = let t = levels-turn f xs i e p later in omega (arith, t, g);
        }

    pub counted_root : i ≤ 0 → Counting xs ys i e k total → k ≡ total
    counted_root l c = let r = levels_root c.fuel xs i e l in omega (arith, r, c.gives)

    pub counted_stop : 0 < i → less e (get_or ys (parent i) z) ≡ false → Counting xs ys i e k total → k ≡ total
    counted_stop p h c = let r = levels_stop c.fuel xs i e (ap (less e) (sym (c.same (parent i) (omega arith))) ∙ h) in omega (arith, r, c.gives)

  -- ---- a loop that counts them and moves nothing

  pub record Climbing (xs : List A) (i : ℕ) (e : A) (k total : ℕ) : Type 0 where
    pub fuel : ℕ
    pub enough : i ≤ fuel
    pub gives : k + levels fuel xs i e ≡ total

  module _ {xs : List A} {i : ℕ} {e : A} {k total : ℕ} where
    pub climbing_on : 0 < i → less e (get_or xs (parent i) z) ≡ true → Climbing xs i e k total → Climbing xs (parent i) e (k + 1) total
    climbing_on p h c = go c.fuel c.enough c.gives
      where
        go : (f : ℕ) → i ≤ f → k + levels f xs i e ≡ total → Climbing xs (parent i) e (k + 1) total
        go zero l g = absurd (omega arith)
        go (suc f) l g = record { fuel = f; enough = omega arith; gives = let t = levels-turn f xs i e p h in omega (arith, t, g) }

    pub climbed_root : i ≤ 0 → Climbing xs i e k total → k ≡ total
    climbed_root l c = let r = levels_root c.fuel xs i e l in omega (arith, r, c.gives)

    pub climbed_stop : less e (get_or xs (parent i) z) ≡ false → Climbing xs i e k total → k ≡ total
    climbed_stop h c = let r = levels_stop c.fuel xs i e h in omega (arith, r, c.gives)
