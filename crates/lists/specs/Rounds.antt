-- The loops of the searches and of `remove`: what is left to do gives the definition's result r. Assumes nothing.
use Rattle.std.specs.Prelude.{◌≡◌, ℕ, zero, suc, ◌+◌, ◌<◌, ◌≤◌, Bool, true, false, cond, List, nat_le, slice_index_or, slice_set}
use Rattle.std.proofs.Math.Path.{refl, ap}
use Rattle.std.proofs.Common.{subst, leb-true}
use native.Mathlib.Omega.{arith}
use Rattle.std.proofs.Math.Numerals.{add-one}
use Rattle.event.specs.declared.EventId.{EventId}
use Rattle.lists.specs.declared.ActiveMap.{ActiveMap}
use Rattle.lists.specs.declared.EditMap.{EditMap}
use Rattle.std.specs.declared.option.Option.{Option}
use Rattle.std.specs.declared.option.Option.TheVariants.{Some, None}
use Rattle.lists.specs.Search.{seek, shift}
use Rattle.lists.specs.Index.{found_id, is_id, no_id}
use Rattle.lists.specs.Edits.{placed, is_edit, no_edit}

module _ {A : Type 0} (z : A) (p : A → Bool) where
  pub record Seeking (n : ℕ) (xs : List A) (i : ℕ) (r : Option ℕ) : Type 0 where
    pub fuel : ℕ
    pub exact : i + fuel ≡ n
    pub gives : seek z p fuel xs i ≡ r

  pub seeking_on : (n : ℕ) (xs : List A) (i : ℕ) (r : Option ℕ) → i < n → p (slice_index_or xs i z) ≡ false → Seeking n xs i r → Seeking n xs (i + 1) r
  unfolding seek
  seeking_on n xs i r l h s = go s.fuel s.exact s.gives
    where
      go : (f : ℕ) → i + f ≡ n → seek z p f xs i ≡ r → Seeking n xs (i + 1) r
      go zero e g = absurd (omega arith)
      go (suc f) e g = rw add-one (record { fuel = f; exact = omega arith; gives = rw h at g })

  pub sought : (n : ℕ) (xs : List A) (i : ℕ) (r : Option ℕ) → i < n → p (slice_index_or xs i z) ≡ true → Seeking n xs i r → Some i ≡ r
  unfolding seek
  sought n xs i r l h s = go s.fuel s.exact s.gives
    where
      go : (f : ℕ) → i + f ≡ n → seek z p f xs i ≡ r → Some i ≡ r
      go zero e g = absurd (omega arith)
      go (suc f) e g = rw h at g

  pub sought_none : (n : ℕ) (xs : List A) (i : ℕ) (r : Option ℕ) → n ≤ i → Seeking n xs i r → None ≡ r
  unfolding seek
  sought_none n xs i r l s = go s.fuel s.exact s.gives
    where
      go : (f : ℕ) → i + f ≡ n → seek z p f xs i ≡ r → None ≡ r
      go zero e g = g
      go (suc f) e g = absurd (omega arith)

  -- what is found is within
  abbrev pub Below : ℕ → Option ℕ → Type 0
  Below n (Some i) = i < n
  Below n None = Unit {0}

  pub seek-below : (n f : ℕ) (xs : List A) (i : ℕ) → i + f ≤ n → Below n (seek z p f xs i)
  unfolding seek
  seek-below n zero xs i h = tt
  seek-below n (suc f) xs i h = go (p (slice_index_or xs i z)) (seek-below n f xs (suc i) (omega arith))
    where
      go : (b : Bool) → Below n (seek z p f xs (suc i)) → Below n (cond b (Some i) (seek z p f xs (suc i)))
      go true r = omega arith
      go false r = r

module _ {A : Type 0} (z : A) where
  pub record Shifting (m : ℕ) (xs : List A) (i : ℕ) (r : List A) : Type 0 where
    pub fuel : ℕ
    pub exact : i + fuel ≡ m
    pub gives : shift z fuel xs i ≡ r

  pub shifting_on : (m : ℕ) (xs : List A) (i : ℕ) (r : List A) → i < m → Shifting m xs i r → Shifting m (slice_set xs i (slice_index_or xs (i + 1) z)) (i + 1) r
  unfolding shift
  shifting_on m xs i r l s = go s.fuel s.exact s.gives
    where
      go : (f : ℕ) → i + f ≡ m → shift z f xs i ≡ r → Shifting m (slice_set xs i (slice_index_or xs (i + 1) z)) (i + 1) r
      go zero e g = absurd (omega arith)
      go (suc f) e g = rw add-one (record { fuel = f; exact = omega arith; gives = g })

  pub shifted : (m : ℕ) (xs : List A) (i : ℕ) (r : List A) → m ≤ i → Shifting m xs i r → xs ≡ r
  unfolding shift
  shifted m xs i r l s = go s.fuel s.exact s.gives
    where
      go : (f : ℕ) → i + f ≡ m → shift z f xs i ≡ r → xs ≡ r
      go zero e g = g
      go (suc f) e g = absurd (omega arith)

-- ---- an array with a count: one above 256 is corrupt, and nothing is found

module _ {A : Type 0} (z : A) (p : A → Bool) (n : ℕ) (xs : List A) where
  abbrev result : Bool → Option ℕ
  result b = cond b (seek z p n xs 0) None

  -- the place that is found stands below the count, and in the array
  abbrev Inside : Option ℕ → Type 0
  Inside (Some i) = (i < n) × (n ≤ 256)
  Inside None = Unit {0}

  inside : (i : ℕ) → result (nat_le n 256) ≡ Some i → (i < n) × (n ≤ 256)
  inside i h = subst Inside h (go (nat_le n 256) (leb-true n 256))
    where
      within : n ≤ 256 → (f : Option ℕ) → Below z p n f → Inside f
      within l (Some j) b = (b, l)
      within l None b = tt

      go : (b : Bool) → (b ≡ true → n ≤ 256) → Inside (result b)
      go true l = within (l refl) (seek z p n xs 0) (seek-below z p n n xs 0 (omega arith))
      go false l = tt

  -- a loop that looks through as many as the array holds
  pub seeking_start : {m : ℕ} → m ≡ cond (nat_le n 256) n 0 → Seeking z p m xs 0 (result (nat_le n 256))
  unfolding seek
  seeking_start {m} h = go (nat_le n 256) h
    where
      go : (b : Bool) → m ≡ cond b n 0 → Seeking z p m xs 0 (result b)
      go true e = record { fuel = m; exact = omega arith; gives = ap (λ (k : ℕ). seek z p k xs 0) e }
      go false e = record { fuel = 0; exact = omega arith; gives = refl }

pub placed-inside : (a : EditMap) (k : EventId) (i : ℕ) → placed a k ≡ Some i → (i < a.len) × (a.len ≤ 256)
unfolding placed
placed-inside a k = inside no_edit (is_edit k) a.len a.items

pub found_inside : (a : ActiveMap) (k : EventId) (i : ℕ) → found_id a k ≡ Some i → (i < a.len) × (a.len ≤ 256)
unfolding found_id
found_inside a k = inside no_id (is_id k) a.len a.ids
