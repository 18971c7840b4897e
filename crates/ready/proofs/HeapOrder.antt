-- `rise` and `sink` keep a heap's order and its elements, for every order that `Order` describes. Assumes nothing.
use Rattle.std.specs.Prelude.{Bool, ◌≡◌, ◌⊎◌, get_or, set, length, drop}
use Rattle.std.proofs.Math.Bool.{true, false}
use Rattle.std.proofs.Math.Path.{refl}
use Rattle.std.proofs.Common.{sym, ap, ◌∙◌, subst, inl, inr, ⊎_elim, drop-set-lt}
use mathlib.Core.List.Perm
use mathlib.Core.List.{List, [], ◌∷◌, Perm}
use Prim.Native.Nat.{ℕ, zero, suc, ◌+◌, ◌*◌, ◌≤◌, ◌<◌}
use native.Mathlib.Omega.{arith}
use Rattle.std.proofs.Math.Decide.{ℕ_discrete, dec_lt}
use Rattle.std.proofs.Math.ListN.{length-set}
use Rattle.std.proofs.Math.Seq.{get_or-set_same, get_or-set_other}
use Rattle.std.proofs.lemmas.List.{set-get_or, set_comm}
use Rattle.ready.specs.Sift.{rise, sink, child, parent}
use Rattle.ready.proofs.Steps.{rise_root, rise_stop, rise_turn, sink_end, sink_turn, child_left, child_first, child_second, child_above}
use Rattle.ready.specs.HeapOrder.{Order, Heap-ordered}

-- ---- the elements

module _ {A : Type 0} where
  pub one : (l : List A) (i : ℕ) (a b : A) → i < length l → Perm (a ∷ set l i b) (b ∷ set l i a)
  one [] i a b h = absurd (omega arith)
  one (x ∷ l) zero a b h = Perm.swap b a l
  one (x ∷ l) (suc i) a b h =
      Perm.trans (Perm.swap x a (set l i b)) (Perm.trans (Perm.cons x (one l i a b (omega arith))) (Perm.swap b x (set l i a)))

  two : (l : List A) (i j : ℕ) (a b : A) → i < j → j < length l → Perm (set (set l i a) j b) (set (set l i b) j a)
  two [] i j a b h k = absurd (omega arith)
  two (x ∷ l) zero zero a b h k = absurd (omega arith)
  two (x ∷ l) zero (suc j) a b h k = one l j a b (omega arith)
  two (x ∷ l) (suc i) zero a b h k = absurd (omega arith)
  two (x ∷ l) (suc i) (suc j) a b h k = Perm.cons x (two l i j a b (omega arith) (omega arith))

  pub perm_eq : {l m : List A} → l ≡ m → Perm l m
  perm_eq {l} {m} p = subst (λ (x : List A). Perm l x) p (Perm.refl l)

  -- the free place moves from i to p
  pub moved : (z : A) (l : List A) (i p : ℕ) (e : A) → (i ≡ p → ⊥) → i < length l → p < length l → Perm (set (set l i (get_or l p z)) p e) (set l i e)
  moved z l i p e n hi hp = go (dec_lt i p)
    where
      back : set (set l i e) p (get_or l p z) ≡ set l i e
      back = rw (← get_or-set_other l i p e z (λ q. n (sym q))) (set-get_or (set l i e) p z)

      go : Dec (i < p) → Perm (set (set l i (get_or l p z)) p e) (set l i e)
      go (yes h) = Perm.trans (two l i p (get_or l p z) e h hp) (perm_eq back)
      go (no h) =
          Perm.trans (perm_eq (set_comm l i p (get_or l p z) e n))
          (Perm.trans (two l p i e (get_or l p z) (omega arith) hi) (perm_eq (ap (λ (x : List A). set x i e) (set-get_or l p z))))

module _ {A : Type 0} (less : A → A → Bool) (z : A) where
  -- below n the free place moves about, and at last e fills it
  pub data Moves (n : ℕ) : List A → ℕ → A → List A → Type 0 where
    stay : {xs : List A} {i : ℕ} {e : A} {r : List A} → r ≡ set xs i e → Moves n xs i e r
    move : {xs : List A} {i : ℕ} {e : A} {r : List A} (p : ℕ) → (i ≡ p → ⊥) → p < n → Moves n (set xs i (get_or xs p z)) p e r → Moves n xs i e r

  pub moves-length : {n : ℕ} {xs : List A} {i : ℕ} {e : A} {r : List A} → Moves n xs i e r → length r ≡ length xs
  moves-length (stay {xs} {i} {e} q) = ap length q ∙ length-set xs i e
  moves-length (move {xs} {i} p h k m) = moves-length m ∙ length-set xs i (get_or xs p z)

  pub moves_perm : {n : ℕ} {xs : List A} {i : ℕ} {e : A} {r : List A} → n ≤ length xs → i < n → Moves n xs i e r → Perm r (set xs i e)
  moves_perm h k (stay q) = perm_eq q
  moves_perm h k (move {xs} {i} {e} p a b m) =
      Perm.trans (moves_perm (rw length-set h) b m) (moved z xs i p e a (omega arith) (omega arith))

  pub moves-drop : {n : ℕ} {xs : List A} {i : ℕ} {e : A} {r : List A} → i < n → Moves n xs i e r → drop n r ≡ drop n xs
  moves-drop {n} k (stay {xs} {i} {e} q) = ap (drop n) q ∙ drop-set-lt n xs i e k
  moves-drop {n} k (move {xs} {i} p a b m) = moves-drop b m ∙ drop-set-lt n xs i (get_or xs p z) k

  -- what `rise` and `sink` do are such moves
  pub rise_moves : (f n : ℕ) (xs : List A) (i : ℕ) (e : A) → i ≤ n → Moves n xs i e (rise less z f xs i e)
  unfolding rise
  rise_moves zero n xs i e h = stay refl
  rise_moves (suc f) n xs i e h = go (rise_moves f n (set xs i (get_or xs (parent i) z)) (parent i) e (omega arith)) (dec_lt 0 i) (less e (get_or xs (parent i) z)) refl
    where
      go : Moves n (set xs i (get_or xs (parent i) z)) (parent i) e (rise less z f (set xs i (get_or xs (parent i) z)) (parent i) e)
          → Dec (0 < i) → (b : Bool) → less e (get_or xs (parent i) z) ≡ b → Moves n xs i e (rise less z (suc f) xs i e)
      go ih (no k) b q = stay (rise_root less z (suc f) xs i e (omega arith))
      go ih (yes k) false q = stay (rise_stop less z (suc f) xs i e q)
      go ih (yes k) true q = rw (rise_turn less z f xs i e k q) (move {xs = xs} {i = i} (parent i) (omega arith) (omega arith) ih)

  -- the child that `sink` takes: the second where it is there and comes first, else the first
  pub child_cases : (xs : List A) (n i : ℕ) → ((child less z xs n i ≡ 2 * i + 2) × (2 * i + 2 < n) × (less (get_or xs (2 * i + 2) z) (get_or xs (2 * i + 1) z) ≡ true))
      ⊎ ((child less z xs n i ≡ 2 * i + 1) × (2 * i + 2 < n → less (get_or xs (2 * i + 2) z) (get_or xs (2 * i + 1) z) ≡ false))
  child_cases xs n i = go (dec_lt (2 * i + 2) n) (less (get_or xs (2 * i + 2) z) (get_or xs (2 * i + 1) z)) refl
    where
      go : Dec (2 * i + 2 < n) → (b : Bool) → less (get_or xs (2 * i + 2) z) (get_or xs (2 * i + 1) z) ≡ b
          → ((child less z xs n i ≡ 2 * i + 2) × (2 * i + 2 < n) × (less (get_or xs (2 * i + 2) z) (get_or xs (2 * i + 1) z) ≡ true))
          ⊎ ((child less z xs n i ≡ 2 * i + 1) × (2 * i + 2 < n → less (get_or xs (2 * i + 2) z) (get_or xs (2 * i + 1) z) ≡ false))
      go (no k) b q = inr (child_left less z xs n i (omega arith), λ h. absurd (k h))
      go (yes k) false q = inr (child_first less z xs n i q, λ h. q)
      go (yes k) true q = inl (child_second less z xs n i k q, k, q)

  child_below : (xs : List A) (n i : ℕ) → 2 * i + 1 < n → child less z xs n i < n
  child_below xs n i h = ⊎_elim (λ w. omega (arith, w.0, w.1)) (λ w. omega (arith, w.0)) (child_cases xs n i)

  child_parent : (xs : List A) (n i : ℕ) → parent (child less z xs n i) ≡ i
  child_parent xs n i = ⊎_elim (λ w. omega (arith, w.0)) (λ w. omega (arith, w.0)) (child_cases xs n i)

  pub sink_moves : (f n : ℕ) (xs : List A) (i : ℕ) (e : A) → i ≤ n → Moves n xs i e (sink less z f xs n i e)
  unfolding sink
  sink_moves zero n xs i e h = rise_moves i n xs i e h
  sink_moves (suc f) n xs i e h =
      let c = child less z xs n i in
      go (λ below. sink_moves f n (set xs i (get_or xs c z)) c e (omega arith)) (dec_lt (2 * i + 1) n)
    where
      go : (let c = child less z xs n i in c < n → Moves n (set xs i (get_or xs c z)) c e (sink less z f (set xs i (get_or xs c z)) n c e))
          → Dec (2 * i + 1 < n) → Moves n xs i e (sink less z (suc f) xs n i e)
      go ih (no k) = rw (sink_end less z (suc f) xs n i e (omega arith)) (rise_moves i n xs i e h)
      go ih (yes k) =
          let below = child_below xs n i k in
          rw (sink_turn less z f xs n i e k) (move {xs = xs} {i = i} (child less z xs n i) (omega (arith, child_above less z xs n i)) below (ih below))

-- ---- the order

module _ {A : Type 0} (less : A → A → Bool) (z : A) where
  -- the same with the place i left out: its children do not come before its parent
  record Gap (n : ℕ) (xs : List A) (i : ℕ) : Type 0 where
    edges : (j : ℕ) → 0 < j → j < n → (j ≡ i → ⊥) → (parent j ≡ i → ⊥) → less (get_or xs j z) (get_or xs (parent j) z) ≡ false
    round : (j : ℕ) → 0 < j → j < n → parent j ≡ i → 0 < i → less (get_or xs j z) (get_or xs (parent i) z) ≡ false

  -- no child of i comes before e; e does not come before i's parent
  Under : ℕ → List A → ℕ → A → Type 0
  Under n xs i e = (j : ℕ) → 0 < j → j < n → parent j ≡ i → less (get_or xs j z) e ≡ false

  Over : List A → ℕ → A → Type 0
  Over xs i e = 0 < i → less e (get_or xs (parent i) z) ≡ false

  module _ (n : ℕ) (xs : List A) (i : ℕ) (e : A) (inside : i < length xs) where
    fill : Gap n xs i → Under n xs i e → Over xs i e → Heap-ordered less z (set xs i e) n
    unfolding Heap-ordered Under Over
    fill g u o j p h = go (ℕ_discrete j i) (ℕ_discrete (parent j) i)
      where
        go : Dec (j ≡ i) → Dec (parent j ≡ i) → less (get_or (set xs i e) j z) (get_or (set xs i e) (parent j) z) ≡ false
        go (yes q) d = rw (get_or-set_other xs i (parent j) e z (omega arith), q, get_or-set_same xs i e z inside) (o (omega arith))
        go (no q) (yes k) = rw (get_or-set_other xs i j e z q, k, get_or-set_same xs i e z inside) (u j p h k)
        go (no q) (no k) = rw (get_or-set_other xs i j e z q, get_or-set_other xs i (parent j) e z k) (g.edges j p h q k)

  module _ (ord : Order less) where
    irrefl : (a : A) → less a a ≡ false
    irrefl a = go (less a a) refl
      where
        go : (b : Bool) → less a a ≡ b → less a a ≡ false
        go true q = ord.asym a a q
        go false q = q

    -- one round up, from i to its parent
    module _ (n : ℕ) (xs : List A) (i : ℕ) (e : A) (inside : i < length xs) (low : i < n) (pos : 0 < i) (g : Gap n xs i) (first : less e (get_or xs (parent i) z) ≡ true) where
      same_up : get_or (set xs i (get_or xs (parent i) z)) i z ≡ get_or xs (parent i) z
      same_up = get_or-set_same xs i (get_or xs (parent i) z) z inside

      other-up : (j : ℕ) → (j ≡ i → ⊥) → get_or (set xs i (get_or xs (parent i) z)) j z ≡ get_or xs j z
      other-up j h = get_or-set_other xs i j (get_or xs (parent i) z) z h

      gap_up : Gap n (set xs i (get_or xs (parent i) z)) (parent i)
      gap_up = record { edges = edges'; round = round' }
        where
          edges' : (j : ℕ) → 0 < j → j < n → (j ≡ parent i → ⊥) → (parent j ≡ parent i → ⊥) → less (get_or (set xs i (get_or xs (parent i) z)) j z) (get_or (set xs i (get_or xs (parent i) z)) (parent j) z) ≡ false
          edges' j p h a b = go (ℕ_discrete (parent j) i)
            where
              ne : j ≡ i → ⊥
              ne q = b (ap parent q)

              go : Dec (parent j ≡ i) → less (get_or (set xs i (get_or xs (parent i) z)) j z) (get_or (set xs i (get_or xs (parent i) z)) (parent j) z) ≡ false
              go (yes k) = rw (other-up j ne, k, same_up) (g.round j p h k pos)
              go (no k) = rw (other-up j ne, other-up (parent j) k) (g.edges j p h ne k)

          round' : (j : ℕ) → 0 < j → j < n → parent j ≡ parent i → 0 < parent i → less (get_or (set xs i (get_or xs (parent i) z)) j z) (get_or (set xs i (get_or xs (parent i) z)) (parent (parent i)) z) ≡ false
          round' j p h a b = rw (other-up (parent (parent i)) (omega arith)) (go (ℕ_discrete j i))
            where
              base : less (get_or xs (parent i) z) (get_or xs (parent (parent i)) z) ≡ false
              base = g.edges (parent i) b (omega arith) (omega arith) (omega arith)

              go : Dec (j ≡ i) → less (get_or (set xs i (get_or xs (parent i) z)) j z) (get_or xs (parent (parent i)) z) ≡ false
              go (yes k) = rw (k, same_up) base
              go (no k) = rw (other-up j k) (ord.on _ _ _ base (rw a at (g.edges j p h k (omega arith))))

      under_up : Under n (set xs i (get_or xs (parent i) z)) (parent i) e
      unfolding Under
      under_up j p h a = go (ℕ_discrete j i)
        where
          base : less (get_or xs (parent i) z) e ≡ false
          base = ord.asym e (get_or xs (parent i) z) first

          go : Dec (j ≡ i) → less (get_or (set xs i (get_or xs (parent i) z)) j z) e ≡ false
          go (yes k) = rw (k, same_up) base
          go (no k) = rw (other-up j k) (ord.on _ _ _ base (rw a at (g.edges j p h k (omega arith))))

    -- one round down, from i to the child that comes first
    module _ (n : ℕ) (xs : List A) (i : ℕ) (c : ℕ) (inside : i < length xs) (down : parent c ≡ i) (above : 0 < c) (low : c < n) (g : Gap n xs i)
        (least : (j : ℕ) → 0 < j → j < n → parent j ≡ i → less (get_or xs j z) (get_or xs c z) ≡ false) where
      same-down : get_or (set xs i (get_or xs c z)) i z ≡ get_or xs c z
      same-down = get_or-set_same xs i (get_or xs c z) z inside

      other-down : (j : ℕ) → (j ≡ i → ⊥) → get_or (set xs i (get_or xs c z)) j z ≡ get_or xs j z
      other-down j h = get_or-set_other xs i j (get_or xs c z) z h

      gap_down : Gap n (set xs i (get_or xs c z)) c
      gap_down = record { edges = edges'; round = round' }
        where
          edges' : (j : ℕ) → 0 < j → j < n → (j ≡ c → ⊥) → (parent j ≡ c → ⊥) → less (get_or (set xs i (get_or xs c z)) j z) (get_or (set xs i (get_or xs c z)) (parent j) z) ≡ false
          edges' j p h a b = go (ℕ_discrete j i) (ℕ_discrete (parent j) i)
            where
              go : Dec (j ≡ i) → Dec (parent j ≡ i) → less (get_or (set xs i (get_or xs c z)) j z) (get_or (set xs i (get_or xs c z)) (parent j) z) ≡ false
              go (yes q) d = rw (other-down (parent j) (omega arith), q, same-down) (g.round c above low down (omega arith))
              go (no q) (yes k) = rw (other-down j q, k, same-down) (least j p h k)
              go (no q) (no k) = rw (other-down j q, other-down (parent j) k) (g.edges j p h q k)

          round' : (j : ℕ) → 0 < j → j < n → parent j ≡ c → 0 < c → less (get_or (set xs i (get_or xs c z)) j z) (get_or (set xs i (get_or xs c z)) (parent c) z) ≡ false
          round' j p h a b = rw (down, same-down, other-down j (omega arith)) (rw a at (g.edges j p h (omega arith) (omega arith)))

    child_least : (xs : List A) (n i j : ℕ) → 0 < j → j < n → parent j ≡ i → less (get_or xs j z) (get_or xs (child less z xs n i) z) ≡ false
    child_least xs n i j p h q = ⊎_elim (λ w. second w.0 w.2 (ℕ_discrete j (2 * i + 1))) (λ w. first w.0 w.1 (ℕ_discrete j (2 * i + 1))) (child_cases less z xs n i)
      where
        second : child less z xs n i ≡ 2 * i + 2 → less (get_or xs (2 * i + 2) z) (get_or xs (2 * i + 1) z) ≡ true → Dec (j ≡ 2 * i + 1) → less (get_or xs j z) (get_or xs (child less z xs n i) z) ≡ false
        second c l (yes k) = rw (c, k) (ord.asym _ _ l)
        second c l (no k) = let m : j ≡ 2 * i + 2 = omega arith in rw (c, m) (irrefl _)

        first : child less z xs n i ≡ 2 * i + 1 → (2 * i + 2 < n → less (get_or xs (2 * i + 2) z) (get_or xs (2 * i + 1) z) ≡ false) → Dec (j ≡ 2 * i + 1) → less (get_or xs j z) (get_or xs (child less z xs n i) z) ≡ false
        first c l (yes k) = rw (c, k) (irrefl _)
        first c l (no k) = let m : j ≡ 2 * i + 2 = omega arith in rw (c, m) (l (omega arith))

    rise_ordered : (f n : ℕ) (xs : List A) (i : ℕ) (e : A) → i ≤ f → i < n → n ≤ length xs → Gap n xs i → Under n xs i e → Heap-ordered less z (rise less z f xs i e) n
    unfolding Over
    rise_ordered zero n xs i e a b c g u = rw (rise_root less z zero xs i e a) (fill n xs i e (omega arith) g u (λ h. absurd (omega arith)))
    rise_ordered (suc f) n xs i e a b c g u =
        go (λ k q. rise_ordered f n (set xs i (get_or xs (parent i) z)) (parent i) e (omega arith) (omega arith) (rw length-set c) (gap_up n xs i e (omega arith) b k g q) (under_up n xs i e (omega arith) b k g q))
        (dec_lt 0 i) (less e (get_or xs (parent i) z)) refl
      where
        go : (0 < i → less e (get_or xs (parent i) z) ≡ true → Heap-ordered less z (rise less z f (set xs i (get_or xs (parent i) z)) (parent i) e) n)
            → Dec (0 < i) → (b : Bool) → less e (get_or xs (parent i) z) ≡ b → Heap-ordered less z (rise less z (suc f) xs i e) n
        go ih (no k) t q = rw (rise_root less z (suc f) xs i e (omega arith)) (fill n xs i e (omega arith) g u (λ h. absurd (k h)))
        go ih (yes k) false q = rw (rise_stop less z (suc f) xs i e q) (fill n xs i e (omega arith) g u (λ h. q))
        go ih (yes k) true q = rw (rise_turn less z f xs i e k q) (ih k q)

    sink_ordered : (f n : ℕ) (xs : List A) (i : ℕ) (e : A) → n ≤ i + f → i < n → n ≤ length xs → Gap n xs i → Heap-ordered less z (sink less z f xs n i e) n
    unfolding Under
    sink_ordered zero n xs i e a b c g = absurd (omega arith)
    sink_ordered (suc f) n xs i e a b c g =
        let h = child_above less z xs n i in
        go
        (λ below. sink_ordered f n (set xs i (get_or xs (child less z xs n i) z)) (child less z xs n i) e (omega arith) below (rw length-set c)
        (gap_down n xs i (child less z xs n i) (omega arith) (child_parent less z xs n i) (omega arith) below g (child_least xs n i)))
        (dec_lt (2 * i + 1) n)
      where
        go : (let j = child less z xs n i in j < n → Heap-ordered less z (sink less z f (set xs i (get_or xs j z)) n j e) n) → Dec (2 * i + 1 < n) → Heap-ordered less z (sink less z (suc f) xs n i e) n
        go ih (no k) = rw (sink_end less z (suc f) xs n i e (omega arith)) (rise_ordered i n xs i e (omega arith) b c g (λ j p h r. absurd (omega arith)))
        go ih (yes k) = rw (sink_turn less z f xs n i e k) (ih (child_below less z xs n i k))

    -- the root comes before none
    pub root_least : (xs : List A) (n : ℕ) → Heap-ordered less z xs n → (f j : ℕ) → j ≤ f → j < n → less (get_or xs j z) (get_or xs 0 z) ≡ false
    unfolding Heap-ordered
    root_least xs n o zero j a b = let q : j ≡ 0 = omega arith in rw q (irrefl _)
    root_least xs n o (suc f) j a b = go (root_least xs n o f (parent j) (omega arith) (omega arith)) (dec_lt 0 j)
      where
        go : less (get_or xs (parent j) z) (get_or xs 0 z) ≡ false → Dec (0 < j) → less (get_or xs j z) (get_or xs 0 z) ≡ false
        go ih (yes k) = ord.on _ _ _ ih (o j k b)
        go ih (no k) = let q : j ≡ 0 = omega arith in rw q (irrefl _)

    -- ---- one more, and one less

    pub push-ordered : (xs : List A) (n : ℕ) (e : A) → n < length xs → Heap-ordered less z xs n → Heap-ordered less z (rise less z n xs n e) (suc n)
    unfolding Heap-ordered Under
    push-ordered xs n e h o =
        rise_ordered n (suc n) xs n e (omega arith) (omega arith) (omega arith)
        (record { edges = λ j p b c d. o j p (omega arith); round = λ j p b c d. absurd (omega arith) }) (λ j p b c. absurd (omega arith))

    pub pop_ordered : (xs : List A) (m : ℕ) (e : A) → m < length xs → Heap-ordered less z xs (suc m) → Heap-ordered less z (sink less z m xs m 0 e) m
    unfolding Heap-ordered
    pop_ordered xs zero e h o = λ j p b. absurd (omega arith)
    pop_ordered xs (suc m) e h o =
        sink_ordered (suc m) (suc m) xs 0 e (omega arith) (omega arith) (omega arith)
        (record { edges = λ j p b c d. o j p (omega arith); round = λ j p b c d. absurd (omega arith) })
