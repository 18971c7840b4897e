-- What a unit gives, by its source. Assumes nothing.
use mathlib.Core.Path.{◌≡◌, refl, ap, ◌∙◌}
use mathlib.Core.Bool.{Bool, true, false, cond}
use mathlib.Core.List.{List, ◌∷◌}
use lib.Dec.{ltb}
use Prim.Native.Nat.{ℕ, zero, suc, ◌+◌, ◌-◌, ◌<◌, ◌≤◌, min}
use native.Mathlib.Nat.{sub-zero}
use native.Mathlib.Omega.{arith}
use borrow.Author.Tests.{lt-ltb, le-ltb, ltb-true, ltb-false}
use lib.Ieee.{Float}
use lib.ListN.{length, get_or, drop, replicate, get_or-eq_default}
use lib.Seq.{drop-cons}
use Rattle.event.specs.declared.Unit.{Unit}
use Rattle.event.specs.declared.Source.{Source}
use Rattle.event.specs.declared.Source.TheVariants.{Held, Ramp, Clip}
use Rattle.event.specs.Sources.{made, steps, sample_of, advanced, next_samples, advanced_by}
use Rattle.floats.specs.Arithmetic.{◌+ˢ◌, zeroᶠ}
use Rattle.runs.specs.Samples.{chain, clip_has, clip_run}

-- a state seen through h gives the same, and moves on with it
module _ {A S R : Type 0} (v : S → A) (next : S → S) (w : R → A) (on : R → R) (h : R → S) (same : (r : R) → v (h r) ≡ w r) (along : (r : R) → next (h r) ≡ h (on r)) where
  pub made_along : (r : R) (k : ℕ) → made v next (h r) k ≡ made w on r k
  unfolding made
  made_along r zero = refl
  made_along r (suc k) =
      let rest : made v next (next (h r)) k ≡ made w on (on r) k = ap (λ (s : S). made v next s k) (along r) ∙ made_along (on r) k in
      λ i. same r i ∷ rest i

  pub steps_along : (r : R) (k : ℕ) → steps next (h r) k ≡ h (steps on r k)
  unfolding steps
  steps_along r zero = refl
  steps_along r (suc k) = ap (λ (s : S). steps next s k) (along r) ∙ steps_along (on r) k

made_same : {A : Type 0} (x : A) (r k : ℕ) → made (λ (r : ℕ). x) (λ r. r) r k ≡ replicate k x
unfolding made
made_same x r zero = refl
made_same x r (suc k) = ap (λ (l : List _). x ∷ l) (made_same x r k)

-- ---- a clip, whose state is its place
abbrev clip_gives : (pool : List Float) → (offset length place : ℕ) → Float
clip_gives pool offset length place = cond (ltb place length) (get_or pool (offset + place) zeroᶠ) zeroᶠ

abbrev clip_place : (length place : ℕ) → ℕ
clip_place length place = cond (ltb place length) (place + 1) place

one_less : (k m : ℕ) → suc k - suc m ≡ k - m
one_less k m = omega arith

one-more-has : (k x y : ℕ) → min (min (suc k) (suc x)) (suc y) ≡ suc (min (min k x) y)
one-more-has k x y = omega arith

module _ (pool : List Float) (o n : ℕ) where
  -- past the clip or the pool there is nothing
  silent : (k p : ℕ) → clip_has pool o n p k ≡ 0 → clip_run pool o n p k ≡ replicate k zeroᶠ
  silent k p e = rw (e, sub-zero)

  abbrev Same : (k p : ℕ) → Type 0
  Same k p = made (clip_gives pool o n) (clip_place n) p k ≡ clip_run pool o n p k

  there : (k p : ℕ) → p < n → o + p < length pool → Same k (p + 1) → Same (suc k) p
  unfolding made
  there k p h b r =
      let m = clip_has pool o n (p + 1) k in
      let t : ltb p n ≡ true = lt-ltb p n h in
      let d : drop (o + p) pool ≡ get_or pool (o + p) zeroᶠ ∷ drop (suc (o + p)) pool = drop-cons pool (o + p) zeroᶠ b in
      let j : suc (o + p) ≡ o + (p + 1) = omega arith in
      let u : n - p ≡ suc (n - (p + 1)) = omega arith in
      let v : length pool - (o + p) ≡ suc (length pool - (o + (p + 1))) = omega arith in
      let c : clip_has pool o n p (suc k) ≡ suc m = rw (u, v) (one-more-has k (n - (p + 1)) (length pool - (o + (p + 1)))) in
      let l : suc k - suc m ≡ k - m = one_less k m in
      rw (t, c, l, d, j) (ap (λ (x : List Float). get_or pool (o + p) zeroᶠ ∷ x) r)

  beyond : (k p : ℕ) → p < n → length pool ≤ o + p → Same k (p + 1) → Same (suc k) p
  unfolding made
  beyond k p h b r =
      let t : ltb p n ≡ true = lt-ltb p n h in
      rw (t, get_or-eq_default pool zeroᶠ b, silent (suc k) p (omega arith)) (ap (λ (x : List Float). zeroᶠ ∷ x) (r ∙ silent k (p + 1) (omega arith)))

  over : (k p : ℕ) → n ≤ p → Same k p → Same (suc k) p
  unfolding made
  over k p h r =
      let t : ltb p n ≡ false = le-ltb p n h in
      rw (t, silent (suc k) p (omega arith)) (ap (λ (x : List Float). zeroᶠ ∷ x) (r ∙ silent k p (omega arith)))

  one_more : (k : ℕ) → ((p : ℕ) → Same k p) → (p : ℕ) → Same (suc k) p
  one_more k r p = go (ltb p n) refl (ltb (o + p) (length pool)) refl
    where
      go : (a : Bool) → ltb p n ≡ a → (b : Bool) → ltb (o + p) (length pool) ≡ b → Same (suc k) p
      go true h true i = there k p (ltb-true p n h) (ltb-true (o + p) (length pool) i) (r (p + 1))
      go true h false i = beyond k p (ltb-true p n h) (ltb-false (o + p) (length pool) i) (r (p + 1))
      go false h b i = over k p (ltb-false p n h) (r p)

  clip-run : (k p : ℕ) → Same k p
  unfolding made
  clip-run zero p =
      let z : clip_has pool o n p 0 ≡ 0 = omega arith in
      rw z
  clip-run (suc k) p = one_more k (clip-run k) p

clip-places : (n k p : ℕ) → steps (clip_place n) p k ≡ p + min k (n - p)
unfolding steps
clip-places n zero p = omega arith
clip-places n (suc k) p = go (ltb p n) refl (clip-places n k (p + 1)) (clip-places n k p)
  where
    go : (b : Bool) → ltb p n ≡ b → steps (clip_place n) (p + 1) k ≡ p + 1 + min k (n - (p + 1)) → steps (clip_place n) p k ≡ p + min k (n - p)
        → steps (clip_place n) (clip_place n p) k ≡ p + min (suc k) (n - p)
    go true h r q = rw h (r ∙ omega (arith, ltb-true p n h))
    go false h r q = rw h (q ∙ omega (arith, ltb-false p n h))

abbrev unit_at : Source → (value : Float) → (place : ℕ) → Unit
unit_at s v p = record { source = s; value = v; place = p }

place-either : (s : Source) (v : Float) (p : ℕ) (b : Bool)
    → cond b (unit_at s v (p + 1)) (unit_at s v p) ≡ unit_at s v (cond b (p + 1) p)
place-either s v p true = refl
place-either s v p false = refl

module _ (pool : List Float) (u : Unit) where
  module _ (level : Float) (e : u.source ≡ Held level) where
    pub held_given : (k : ℕ) → next_samples pool u k ≡ replicate k level
    held_given k = made_along (sample_of pool) advanced (λ (r : ℕ). level) (λ r. r) (λ r. u) (λ r. rw e) (λ r. rw e) 0 k ∙ made_same level 0 k

    pub held_after : (k : ℕ) → advanced_by u k ≡ u
    held_after k = steps_along (sample_of pool) advanced (λ (r : ℕ). level) (λ r. r) (λ r. u) (λ r. rw e) (λ r. rw e) 0 k

  module _ (first step : Float) (e : u.source ≡ Ramp first step) where
    pub ramp_given : (k : ℕ) → next_samples pool u k ≡ chain step u.value k
    ramp_given k = made_along (sample_of pool) advanced (λ y. y) (λ y. y +ˢ step) (λ y. unit_at u.source y u.place) (λ y. rw e) (λ y. rw e) u.value k

    pub ramp-after : (k : ℕ) → advanced_by u k ≡ unit_at u.source (steps (λ y. y +ˢ step) u.value k) u.place
    ramp-after k = steps_along (sample_of pool) advanced (λ y. y) (λ y. y +ˢ step) (λ y. unit_at u.source y u.place) (λ y. rw e) (λ y. rw e) u.value k

  module _ (offset length : ℕ) (e : u.source ≡ Clip offset length) where
    moves : (p : ℕ) → advanced (unit_at u.source u.value p) ≡ unit_at u.source u.value (clip_place length p)
    moves p = rw e (place-either (Clip offset length) u.value p (ltb p length))

    pub clip_given : (k : ℕ) → next_samples pool u k ≡ clip_run pool offset length u.place k
    clip_given k =
        made_along (sample_of pool) advanced (clip_gives pool offset length) (clip_place length) (unit_at u.source u.value) (λ p. rw e) moves u.place k
        ∙ clip-run pool offset length k u.place

    pub clip-after : (k : ℕ) → advanced_by u k ≡ unit_at u.source u.value (u.place + min k (length - u.place))
    clip-after k =
        steps_along (sample_of pool) advanced (clip_gives pool offset length) (clip_place length) (unit_at u.source u.value) (λ p. rw e) moves u.place k
        ∙ ap (unit_at u.source u.value) (clip-places length k u.place)
