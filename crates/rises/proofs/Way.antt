-- The way up in a heap's array: its places, how many they are, and which events on it come after a new one. In a heap these are the first ones on the way. Assumes nothing.
use Rattle.std.specs.Prelude.{◌≡◌, ℕ, zero, suc, ◌*◌, ◌/◌, ◌^◌, ◌<◌, ◌≤◌, Bool, true, false, cond, List, [], ◌∷◌, length, ◌≢◌, nat_lt, slice_index_or, slice_set}
use Rattle.std.proofs.Math.Path.{refl, sym, ap}
use Rattle.std.proofs.Common.{◌∙◌, subst, pow-suc, get_or-set_same, get_or-set_other, lt-ltb, le-ltb}
use native.Mathlib.Omega.{arith}
use Rattle.std.proofs.Math.Pow.{pow_mono}
use Rattle.std.proofs.Math.Decide.{ℕ_discrete, dec_lt}
use Rattle.std.proofs.Math.ListN.{length-set}
use Rattle.ready.specs.Sift.{parent, rise}
use Rattle.ready.proofs.Steps.{rise_root, rise_stop, rise_turn}
use Rattle.ready.specs.HeapOrder.{Order, Heap-ordered}
use Rattle.ready.specs.Levels.{levels, levels_root, levels_stop, levels-turn}
use Rattle.rises.specs.Way.{halvings, floor_log2, way_up, later_at}

halvings-one : (f k : ℕ) → k ≤ 1 → halvings f k ≡ 0
unfolding halvings
halvings-one zero k h = refl
halvings-one (suc f) k h = rw (le-ltb 1 k h)

halvings_on : (f k : ℕ) → 1 < k → halvings (suc f) k ≡ suc (halvings f (k / 2))
unfolding halvings
halvings_on f k h = rw (lt-ltb 1 k h)

-- as much fuel as there is below k is enough
halvings_enough : (f g k : ℕ) → k ≤ suc f → k ≤ suc g → halvings f k ≡ halvings g k
halvings_enough zero g k p q = halvings-one 0 k p ∙ sym (halvings-one g k p)
halvings_enough (suc f) zero k p q = halvings-one (suc f) k q ∙ sym (halvings-one 0 k q)
halvings_enough (suc f) (suc g) k p q = go (dec_lt 1 k) (halvings_enough f g (k / 2) (omega arith) (omega arith))
  where
    go : Dec (1 < k) → halvings f (k / 2) ≡ halvings g (k / 2) → halvings (suc f) k ≡ halvings (suc g) k
    go (yes h) ih = halvings_on f k h ∙ ap suc ih ∙ sym (halvings_on g k h)
    go (no h) ih = halvings-one (suc f) k (omega arith) ∙ sym (halvings-one (suc g) k (omega arith))

pub log2_is : (f k : ℕ) → k ≤ suc f → halvings f k ≡ floor_log2 k
unfolding floor_log2
log2_is f k h = halvings_enough f k k h (omega arith)

pub log2_one : (k : ℕ) → k ≤ 1 → floor_log2 k ≡ 0
unfolding floor_log2
log2_one k h = halvings-one k k h

pub log2_on : (k : ℕ) → 1 < k → floor_log2 k ≡ suc (floor_log2 (k / 2))
log2_on k h = sym (log2_is (suc k) k (omega arith)) ∙ halvings_on k k h ∙ ap suc (log2_is k (k / 2) (omega arith))

pub log2_small : (k : ℕ) → floor_log2 k ≤ k
unfolding floor_log2 halvings
log2_small k = go k k
  where
    on : (b : Bool) (f n : ℕ) → n ≤ f → cond b (suc n) 0 ≤ suc f
    on true f n h = omega arith
    on false f n h = omega arith

    go : (f k : ℕ) → halvings f k ≤ f
    go zero k = omega arith
    go (suc f) k = on (nat_lt 1 k) f (halvings f (k / 2)) (go f (k / 2))

-- it is the whole number below the logarithm: 2 ^ floor_log2 k ≤ k < 2 ^ (floor_log2 k + 1)
pub log2_floor : (k : ℕ) → 0 < k → (2 ^ floor_log2 k ≤ k) × (k < 2 ^ suc (floor_log2 k))
unfolding floor_log2 halvings
log2_floor k h = go k k h (omega arith)
  where
    two : (x y k : ℕ) → x ≤ k / 2 → k / 2 < y → (x * 2 ≤ k) × (k < y * 2)
    two x y k a b = (omega arith, omega arith)

    go : (f k : ℕ) → 0 < k → k ≤ suc f → (2 ^ halvings f k ≤ k) × (k < 2 ^ suc (halvings f k))
    go zero k h l = (h, omega arith)
    go (suc f) k h l = at (λ s. go f (k / 2) (omega arith) (omega arith)) (dec_lt 1 k)
      where
        at : (1 < k → (2 ^ halvings f (k / 2) ≤ k / 2) × (k / 2 < 2 ^ suc (halvings f (k / 2)))) → Dec (1 < k) → (2 ^ halvings (suc f) k ≤ k) × (k < 2 ^ suc (halvings (suc f) k))
        at ih (no s) = subst (λ (n : ℕ). (2 ^ n ≤ k) × (k < 2 ^ suc n)) (sym (halvings-one (suc f) k (omega arith))) (h, omega arith)
        at ih (yes s) =
            let r = ih s in
            subst (λ (n : ℕ). (2 ^ n ≤ k) × (k < 2 ^ suc n)) (sym (halvings_on f k s)) (rw (pow-suc 2 (halvings f (k / 2)), pow-suc 2 (suc (halvings f (k / 2)))) (two (2 ^ halvings f (k / 2)) (2 ^ suc (halvings f (k / 2))) k r.0 r.1))

-- and no other is
pub log2_only : (k r : ℕ) → 0 < k → 2 ^ r ≤ k → k < 2 * 2 ^ r → r ≡ floor_log2 k
log2_only k r h a b = go (dec_lt r (floor_log2 k)) (dec_lt (floor_log2 k) r)
  where
    f : (2 ^ floor_log2 k ≤ k) × (k < 2 ^ suc (floor_log2 k))
    f = log2_floor k h

    go : Dec (r < floor_log2 k) → Dec (floor_log2 k < r) → r ≡ floor_log2 k
    go (yes l) q = let m : 2 ^ suc r ≤ 2 ^ floor_log2 k = pow_mono (omega arith) in let n = pow-suc 2 r in absurd (omega (arith, m, n, f.0))
    go (no l) (yes m) = let n : 2 ^ suc (floor_log2 k) ≤ 2 ^ r = pow_mono (omega arith) in absurd (omega (arith, n, f.1))
    go (no l) (no m) = omega arith

pub way_root : (f i : ℕ) → i ≤ 0 → way_up f i ≡ []
unfolding way_up
way_root zero i h = refl
way_root (suc f) i h = rw (le-ltb 0 i h)

pub way_on : (f i : ℕ) → 0 < i → way_up (suc f) i ≡ parent i ∷ way_up f (parent i)
unfolding way_up
way_on f i h = rw (lt-ltb 0 i h)

-- from place i it has floor(log2 (i + 1)) places
pub way-length : (i : ℕ) → length (way_up i i) ≡ floor_log2 (suc i)
unfolding way_up halvings
way-length i = go i i ∙ log2_is i (suc i) (omega arith)
  where
    half : (i : ℕ) → 0 < i → suc i / 2 ≡ suc (parent i)
    half i h = omega arith

    go : (f i : ℕ) → length (way_up f i) ≡ halvings f (suc i)
    go zero i = refl
    go (suc f) i = at (dec_lt 0 i) (go f (parent i))
      where
        at : Dec (0 < i) → length (way_up f (parent i)) ≡ halvings f (suc (parent i)) → length (way_up (suc f) i) ≡ halvings (suc f) (suc i)
        at (no h) ih = ap length (way_root (suc f) i (omega arith)) ∙ sym (halvings-one (suc f) (suc i) (omega arith))
        at (yes h) ih = ap length (way_on f i h) ∙ ap suc (ih ∙ ap (halvings f) (sym (half i h))) ∙ sym (halvings_on f (suc i) (omega arith))

-- ---- the events on it

module _ {A : Type 0} (less : A → A → Bool) (z : A) where
  later_on : (p : ℕ) (ps : List ℕ) (xs : List A) (e : A) (b : Bool) → less e (slice_index_or xs p z) ≡ b → later_at less z (p ∷ ps) xs e ≡ cond b (suc (later_at less z ps xs e)) (later_at less z ps xs e)
  unfolding later_at
  later_on p ps xs e b h = ap (λ (b : Bool). cond b (suc (later_at less z ps xs e)) (later_at less z ps xs e)) h

  -- no event rises further than the way is long
  pub levels_most : (xs : List A) (i : ℕ) (e : A) → levels less z i xs i e ≤ floor_log2 (suc i)
  unfolding levels way_up
  levels_most xs i e = let a = go i i in let b = way-length i in omega (arith, a, b)
    where
      go : (f i : ℕ) → levels less z f xs i e ≤ length (way_up f i)
      go zero i = omega arith
      go (suc f) i = at (dec_lt 0 i) (less e (slice_index_or xs (parent i) z)) refl (go f (parent i))
        where
          at : Dec (0 < i) → (b : Bool) → less e (slice_index_or xs (parent i) z) ≡ b → levels less z f xs (parent i) e ≤ length (way_up f (parent i)) → levels less z (suc f) xs i e ≤ length (way_up (suc f) i)
          at (no h) b q ih = let a = levels_root less z (suc f) xs i e (omega arith) in omega (arith, a)
          at (yes h) false q ih = let a = levels_stop less z (suc f) xs i e q in omega (arith, a)
          at (yes h) true q ih = rw (levels-turn less z f xs i e h q, way_on f i h) (omega (arith, ih))

  -- one that comes before all that stand below place i rises to the top
  pub levels-all : (xs : List A) (i : ℕ) (e : A) → ((j : ℕ) → j < i → less e (slice_index_or xs j z) ≡ true) → levels less z i xs i e ≡ floor_log2 (suc i)
  unfolding levels way_up
  levels-all xs i e first = go i i first ∙ way-length i
    where
      go : (f i : ℕ) → ((j : ℕ) → j < i → less e (slice_index_or xs j z) ≡ true) → levels less z f xs i e ≡ length (way_up f i)
      go zero i h = refl
      go (suc f) i h = at (λ k. go f (parent i) (λ j q. h j (omega arith))) (dec_lt 0 i)
        where
          at : (0 < i → levels less z f xs (parent i) e ≡ length (way_up f (parent i))) → Dec (0 < i) → levels less z (suc f) xs i e ≡ length (way_up (suc f) i)
          at ih (no k) = levels_root less z (suc f) xs i e (omega arith) ∙ sym (ap length (way_root (suc f) i (omega arith)))
          at ih (yes k) = levels-turn less z f xs i e k (h (parent i) (omega arith)) ∙ ap suc (ih k) ∙ sym (ap length (way_on f i k))

  -- in a heap what e passes on its way up are all the events there that come after it
  module _ (ord : Order less) (xs : List A) (n : ℕ) (heap : Heap-ordered less z xs n) (e : A) where
    none-later : (f i : ℕ) → i < n → less e (slice_index_or xs i z) ≡ false → later_at less z (way_up f i) xs e ≡ 0
    unfolding way_up later_at Heap-ordered
    none-later zero i h q = refl
    none-later (suc f) i h q = at (dec_lt 0 i) (none-later f (parent i) (omega arith))
      where
        at : Dec (0 < i) → (less e (slice_index_or xs (parent i) z) ≡ false → later_at less z (way_up f (parent i)) xs e ≡ 0) → later_at less z (way_up (suc f) i) xs e ≡ 0
        at (no k) ih = ap (λ (w : List ℕ). later_at less z w xs e) (way_root (suc f) i (omega arith))
        at (yes k) ih =
            let above : less e (slice_index_or xs (parent i) z) ≡ false = ord.on (slice_index_or xs (parent i) z) (slice_index_or xs i z) e (heap i k h) q in
            ap (λ (w : List ℕ). later_at less z w xs e) (way_on f i k) ∙ later_on (parent i) (way_up f (parent i)) xs e false above ∙ ih above

    pub levels_on_way : (i : ℕ) → i ≤ n → levels less z i xs i e ≡ later_at less z (way_up i i) xs e
    unfolding levels way_up later_at
    levels_on_way i h = go i i h
      where
        go : (f i : ℕ) → i ≤ n → levels less z f xs i e ≡ later_at less z (way_up f i) xs e
        go zero i h = refl
        go (suc f) i h = at (dec_lt 0 i) (less e (slice_index_or xs (parent i) z)) refl (go f (parent i) (omega arith))
          where
            at : Dec (0 < i) → (b : Bool) → less e (slice_index_or xs (parent i) z) ≡ b → levels less z f xs (parent i) e ≡ later_at less z (way_up f (parent i)) xs e → levels less z (suc f) xs i e ≡ later_at less z (way_up (suc f) i) xs e
            at (no k) b q ih = levels_root less z (suc f) xs i e (omega arith) ∙ sym (ap (λ (w : List ℕ). later_at less z w xs e) (way_root (suc f) i (omega arith)))
            at (yes k) false q ih =
                levels_stop less z (suc f) xs i e q ∙ sym (ap (λ (w : List ℕ). later_at less z w xs e) (way_on f i k) ∙ later_on (parent i) (way_up f (parent i)) xs e false q ∙ none-later f (parent i) (omega arith) q)
            at (yes k) true q ih =
                levels-turn less z f xs i e k q ∙ ap suc ih ∙ sym (ap (λ (w : List ℕ). later_at less z w xs e) (way_on f i k) ∙ later_on (parent i) (way_up f (parent i)) xs e true q)

module _ {A : Type 0} (less : A → A → Bool) (z : A) (P : A → Type 0) where
  set_keeps : (n : ℕ) (xs : List A) (i : ℕ) (e : A) → i < n → n ≤ length xs → ((j : ℕ) → j < n → (j ≢ i) → P (slice_index_or xs j z)) → P e → (j : ℕ) → j < n → P (slice_index_or (slice_set xs i e) j z)
  set_keeps n xs i e a b h p j q = go (ℕ_discrete j i)
    where
      go : Dec (j ≡ i) → P (slice_index_or (slice_set xs i e) j z)
      go (yes k) = rw (k, get_or-set_same xs i e z (omega arith)) p
      go (no k) = rw (get_or-set_other xs i j e z k) (h j q k)

  moved_keeps : (n : ℕ) (xs : List A) (i : ℕ) → i < n → n ≤ length xs → ((j : ℕ) → j < n → (j ≢ i) → P (slice_index_or xs j z)) → 0 < i
      → (j : ℕ) → j < n → (j ≢ parent i) → P (slice_index_or (slice_set xs i (slice_index_or xs (parent i) z)) j z)
  moved_keeps n xs i a b h k j q d = set_keeps n xs i (slice_index_or xs (parent i) z) a b h (h (parent i) (omega arith) (omega arith)) j q

  pub rise_keeps : (f n : ℕ) (xs : List A) (i : ℕ) (e : A) → i < n → n ≤ length xs → ((j : ℕ) → j < n → (j ≢ i) → P (slice_index_or xs j z)) → P e → (j : ℕ) → j < n → P (slice_index_or (rise less z f xs i e) j z)
  unfolding rise
  rise_keeps zero n xs i e a b h p j q = set_keeps n xs i e a b h p j q
  rise_keeps (suc f) n xs i e a b h p j q =
      go (λ k. rise_keeps f n (slice_set xs i (slice_index_or xs (parent i) z)) (parent i) e (omega arith) (rw length-set b) (moved_keeps n xs i a b h k) p j q) (dec_lt 0 i) (less e (slice_index_or xs (parent i) z)) refl
    where
      go : (0 < i → P (slice_index_or (rise less z f (slice_set xs i (slice_index_or xs (parent i) z)) (parent i) e) j z)) → Dec (0 < i) → (t : Bool) → less e (slice_index_or xs (parent i) z) ≡ t → P (slice_index_or (rise less z (suc f) xs i e) j z)
      go ih (no k) t r = rw (rise_root less z (suc f) xs i e (omega arith)) (set_keeps n xs i e a b h p j q)
      go ih (yes k) false r = rw (rise_stop less z (suc f) xs i e r) (set_keeps n xs i e a b h p j q)
      go ih (yes k) true r = rw (rise_turn less z f xs i e k r) (ih k)
