-- Sorted insertion, for any order: what it gives does not depend on the order of what is inserted, but for elements that the order does not tell apart. Assumes nothing.
use Prim.Native.Nat.{ℕ, suc, ◌+◌}
use native.Mathlib.Omega.{arith}
use Rattle.std.proofs.Math.ListN.{length}
use Rattle.std.specs.Prelude.{Bool, ◌≡◌}
use Rattle.std.proofs.Math.Bool.{true, false, cond}
use Rattle.std.proofs.Common.{true≢false, sym, ◌∙◌}
use Rattle.std.proofs.Math.Path.{refl, ap, subst}
use Rattle.std.proofs.Math.Logic.{∥∥₁_elim, ∥∥₁_map}
use mathlib.Core.HLevel.{hedberg}
use mathlib.Core.List.Permᴰ
use mathlib.Core.List.{List, [], ◌∷◌, map, is_set, Memᴰ, Perm, Permᴰ}
use Rattle.std.proofs.Math.Decide.{ℕ_discrete}
use Rattle.ready.specs.HeapOrder.{Order}
use Rattle.overlap.specs.Stretch.{those}

-- ---- those that pass, of a permutation

module _ {A : Type 0} (p : A → Bool) where
  those_cons : (a : A) (l m : List A) → Permᴰ (those p l) (those p m) → Permᴰ (those p (a ∷ l)) (those p (a ∷ m))
  unfolding those
  those_cons a l m d = go (p a)
    where
      go : (b : Bool) → Permᴰ (cond b (a ∷ those p l) (those p l)) (cond b (a ∷ those p m) (those p m))
      go true = Permᴰ.cons refl d
      go false = d

  those-swap : (a b : A) (l : List A) → Permᴰ (those p (a ∷ b ∷ l)) (those p (b ∷ a ∷ l))
  unfolding those
  those-swap a b l = go (p a) (p b)
    where
      go : (x y : Bool) → Permᴰ (cond x (a ∷ cond y (b ∷ those p l) (those p l)) (cond y (b ∷ those p l) (those p l))) (cond y (b ∷ cond x (a ∷ those p l) (those p l)) (cond x (a ∷ those p l) (those p l)))
      go true true = Permᴰ.swap refl refl
      go true false = Permᴰ.refl (a ∷ those p l)
      go false true = Permᴰ.refl (b ∷ those p l)
      go false false = Permᴰ.refl (those p l)

  those_permᴰ : {l m : List A} → Permᴰ l m → Permᴰ (those p l) (those p m)
  those_permᴰ Permᴰ.nil = Permᴰ.refl (those p [])
  those_permᴰ (Permᴰ.cons {a} {b} {l₁} {l₂} e d) = subst (λ (x : A). Permᴰ (those p (a ∷ l₁)) (those p (x ∷ l₂))) e (those_cons a l₁ l₂ (those_permᴰ d))
  those_permᴰ (Permᴰ.swap {a} {b} {a'} {b'} {l} e₁ e₂) =
      subst (λ (x : A). Permᴰ (those p (a ∷ b ∷ l)) (those p (x ∷ b' ∷ l))) e₂ (subst (λ (y : A). Permᴰ (those p (a ∷ b ∷ l)) (those p (b ∷ y ∷ l))) e₁ (those-swap a b l))
  those_permᴰ (Permᴰ.trans d₁ d₂) = Permᴰ.trans (those_permᴰ d₁) (those_permᴰ d₂)

  pub those_perm : {l m : List A} → Perm l m → Perm (those p l) (those p m)
  those_perm {l} {m} d = ∥∥₁_map {B = Permᴰ (those p l) (those p m)} d those_permᴰ

-- ---- insertion by any order

module _ {A : Type 0} (less : A → A → Bool) where
  unfoldable pub insert_by : A → List A → List A
  insert_by e [] = e ∷ []
  insert_by e (f ∷ w) = cond (less e f) (e ∷ f ∷ w) (f ∷ insert_by e w)

  unfoldable pub inserts_by : List A → List A → List A
  unfolding insert_by
  inserts_by [] w = w
  inserts_by (e ∷ l) w = inserts_by l (insert_by e w)

  insert_cons : (e f : A) (w : List A) → insert_by e (f ∷ w) ≡ cond (less e f) (e ∷ f ∷ w) (f ∷ insert_by e w)
  unfolding insert_by
  insert_cons e f w = refl

  insert-after : (e f : A) (w : List A) → less e f ≡ false → insert_by e (f ∷ w) ≡ f ∷ insert_by e w
  unfolding insert_by
  insert-after e f w h = rw h

  insert-before : (e f : A) (w : List A) → less e f ≡ true → insert_by e (f ∷ w) ≡ e ∷ f ∷ w
  unfolding insert_by
  insert-before e f w h = rw h

  length_insert_by : (e : A) (w : List A) → length (insert_by e w) ≡ suc (length w)
  unfolding insert_by
  length_insert_by e [] = refl
  length_insert_by e (f ∷ w) = go (less e f) (length_insert_by e w)
    where
      go : (b : Bool) → length (insert_by e w) ≡ suc (length w) → length (cond b (e ∷ f ∷ w) (f ∷ insert_by e w)) ≡ suc (suc (length w))
      go true ih = refl
      go false ih = ap suc ih

  pub length_inserts_by : (l w : List A) → length (inserts_by l w) ≡ length l + length w
  unfolding inserts_by
  length_inserts_by [] w = omega arith
  length_inserts_by (e ∷ l) w = length_inserts_by l (insert_by e w) ∙ rw (length_insert_by e w) (omega arith)

  -- what comes before none stays in front
  inserts_behind : (r : A) (l w : List A) → ((y : A) → Memᴰ y l → less y r ≡ false) → inserts_by l (r ∷ w) ≡ r ∷ inserts_by l w
  unfolding inserts_by
  inserts_behind r [] w h = refl
  inserts_behind r (y ∷ l) w h =
      ap (λ (x : List A). inserts_by l x) (insert-after y r w (h y (Memᴰ.head refl))) ∙ inserts_behind r l (insert_by y w) (λ z m. h z (Memᴰ.tail m))

  pub least_first : (r : A) (l : List A) → ((y : A) → Memᴰ y l → less y r ≡ false) → inserts_by (r ∷ l) [] ≡ r ∷ inserts_by l []
  unfolding inserts_by insert_by
  least_first r l h = inserts_behind r l [] h

  -- none comes before one in front of it
  abbrev pub Ordered : List A → Type 0
  Ordered [] = Unit {0}
  Ordered (r ∷ l) = ((y : A) → Memᴰ y l → less y r ≡ false) × Ordered l

  pub ordered-stays : (l : List A) → Ordered l → inserts_by l [] ≡ l
  unfolding inserts_by
  ordered-stays [] s = refl
  ordered-stays (r ∷ l) s = least_first r l s.0 ∙ ap (λ (x : List A). r ∷ x) (ordered-stays l s.1)

  -- ---- elements that the order does not tell apart

  abbrev Same : A → A → Type 0
  Same a b = (less a b ≡ false) × (less b a ≡ false)

  abbrev Alike : List A → List A → Type 0
  Alike [] [] = Unit {0}
  Alike [] (b ∷ m) = ⊥
  Alike (a ∷ l) [] = ⊥
  Alike (a ∷ l) (b ∷ m) = Same a b × Alike l m

  module _ (ord : Order less) where
    irrefl : (a : A) → less a a ≡ false
    irrefl a = go (less a a) refl
      where
        go : (b : Bool) → less a a ≡ b → less a a ≡ false
        go true q = ord.asym a a q
        go false q = q

    alike_refl : (l : List A) → Alike l l
    alike_refl [] = tt
    alike_refl (a ∷ l) = ((irrefl a, irrefl a), alike_refl l)

    alike_trans : (l m n : List A) → Alike l m → Alike m n → Alike l n
    alike_trans [] [] [] p q = tt
    alike_trans [] [] (c ∷ n) p q = absurd q
    alike_trans [] (b ∷ m) n p q = absurd p
    alike_trans (a ∷ l) [] n p q = absurd p
    alike_trans (a ∷ l) (b ∷ m) [] p q = absurd q
    alike_trans (a ∷ l) (b ∷ m) (c ∷ n) p q = ((ord.on c b a q.0.0 p.0.0, ord.on a b c p.0.1 q.0.1), alike_trans l m n p.1 q.1)

    -- the order does not tell them apart from others either
    same-less : (a b e f : A) → Same a b → Same e f → less a e ≡ less b f
    same-less a b e f p q = go (less a e) (less b f) refl refl
      where
        -- b not before f, so a not before e
        down : less b f ≡ false → less a e ≡ false
        down h = ord.on e f a q.1 (ord.on f b a h p.0)

        up : less a e ≡ false → less b f ≡ false
        up h = ord.on f e b q.0 (ord.on e a b h p.1)

        go : (x y : Bool) → less a e ≡ x → less b f ≡ y → less a e ≡ less b f
        go true true u v = u ∙ sym v
        go false false u v = u ∙ sym v
        go true false u v = absurd (true≢false (sym u ∙ down v))
        go false true u v = absurd (true≢false (sym v ∙ up u))

    insert_alike : (a b : A) (l m : List A) → Same a b → Alike l m → Alike (insert_by a l) (insert_by b m)
    unfolding insert_by
    insert_alike a b [] [] p q = (p, tt)
    insert_alike a b [] (f ∷ m) p q = absurd q
    insert_alike a b (e ∷ l) [] p q = absurd q
    insert_alike a b (e ∷ l) (f ∷ m) p q = go (less a e) refl (less b f) (sym (same-less a b e f p q.0)) (insert_alike a b l m p q.1)
      where
        go : (x : Bool) → less a e ≡ x → (y : Bool) → less b f ≡ less a e → Alike (insert_by a l) (insert_by b m) → Alike (cond (less a e) (a ∷ e ∷ l) (e ∷ insert_by a l)) (cond (less b f) (b ∷ f ∷ m) (f ∷ insert_by b m))
        go true h y k ih = rw (k, h) (p, q)
        go false h y k ih = rw (k, h) (q.0, ih)

    inserts_alike : (l v w : List A) → Alike v w → Alike (inserts_by l v) (inserts_by l w)
    unfolding inserts_by
    inserts_alike [] v w p = p
    inserts_alike (a ∷ l) v w p = inserts_alike l (insert_by a v) (insert_by a w) (insert_alike a a v w (irrefl a, irrefl a) p)

    -- a and b in front of r, in either order
    two_alike : (a b : A) (r : List A) → Alike (cond (less a b) (a ∷ b ∷ r) (b ∷ a ∷ r)) (cond (less b a) (b ∷ a ∷ r) (a ∷ b ∷ r))
    two_alike a b r = go (less a b) (less b a) refl refl
      where
        go : (x y : Bool) → less a b ≡ x → less b a ≡ y → Alike (cond x (a ∷ b ∷ r) (b ∷ a ∷ r)) (cond y (b ∷ a ∷ r) (a ∷ b ∷ r))
        go true true h k = absurd (true≢false (sym k ∙ ord.asym a b h))
        go true false h k = alike_refl (a ∷ b ∷ r)
        go false true h k = alike_refl (b ∷ a ∷ r)
        go false false h k = ((k, h), ((h, k), alike_refl r))

    swap_step : (a b f : A) (w : List A) → Alike (insert_by a (insert_by b w)) (insert_by b (insert_by a w)) → Alike (insert_by a (insert_by b (f ∷ w))) (insert_by b (insert_by a (f ∷ w)))
    swap_step a b f w ih = go (less a f) (less b f) refl refl
      where
        go : (x y : Bool) → less a f ≡ x → less b f ≡ y → Alike (insert_by a (insert_by b (f ∷ w))) (insert_by b (insert_by a (f ∷ w)))
        go true true h k = rw (insert-before a f w h, insert-before b f w k, insert_cons a b (f ∷ w), insert_cons b a (f ∷ w), insert-before a f w h, insert-before b f w k) (two_alike a b (f ∷ w))
        go true false h k =
            rw (insert-before a f w h, insert-after b f w k, insert-before a f (insert_by b w) h, insert-after b a (f ∷ w) (ord.on a f b (ord.asym a f h) k), insert-after b f w k) (alike_refl (a ∷ f ∷ insert_by b w))
        go false true h k =
            rw (insert-after a f w h, insert-before b f w k, insert-before b f (insert_by a w) k, insert-after a b (f ∷ w) (ord.on b f a (ord.asym b f k) h), insert-after a f w h) (alike_refl (b ∷ f ∷ insert_by a w))
        go false false h k = rw (insert-after a f w h, insert-after b f w k, insert-after a f (insert_by b w) h, insert-after b f (insert_by a w) k) ((irrefl f, irrefl f), ih)

    swap_alike : (a b : A) (w : List A) → Alike (insert_by a (insert_by b w)) (insert_by b (insert_by a w))
    unfolding insert_by
    swap_alike a b [] = two_alike a b []
    swap_alike a b (f ∷ w) = swap_step a b f w (swap_alike a b w)

    inserts_permᴰ : {l m : List A} → Permᴰ l m → (w : List A) → Alike (inserts_by l w) (inserts_by m w)
    unfolding inserts_by
    inserts_permᴰ Permᴰ.nil w = alike_refl w
    inserts_permᴰ (Permᴰ.cons {a} {b} {l₁} {l₂} e d) w = subst (λ (x : A). Alike (inserts_by (a ∷ l₁) w) (inserts_by (x ∷ l₂) w)) e (inserts_permᴰ d (insert_by a w))
    inserts_permᴰ (Permᴰ.swap {a} {b} {a'} {b'} {l} e₁ e₂) w =
        subst (λ (x : A). Alike (inserts_by (a ∷ b ∷ l) w) (inserts_by (x ∷ b' ∷ l) w)) e₂
        (subst (λ (y : A). Alike (inserts_by (a ∷ b ∷ l) w) (inserts_by (b ∷ y ∷ l) w)) e₁ (inserts_alike l (insert_by b (insert_by a w)) (insert_by a (insert_by b w)) (swap_alike b a w)))
    inserts_permᴰ (Permᴰ.trans {l₁} {l₂} {l₃} d₁ d₂) w = alike_trans (inserts_by l₁ w) (inserts_by l₂ w) (inserts_by l₃ w) (inserts_permᴰ d₁ w) (inserts_permᴰ d₂ w)

    -- ---- what the order does not tell apart has equal numbers

    module _ (number : A → ℕ) (tied : (a b : A) → less a b ≡ false → less b a ≡ false → number a ≡ number b) where
      alike_numbers : (l m : List A) → Alike l m → map number l ≡ map number m
      alike_numbers [] [] p = refl
      alike_numbers [] (b ∷ m) p = absurd p
      alike_numbers (a ∷ l) [] p = absurd p
      alike_numbers (a ∷ l) (b ∷ m) p = λ i. tied a b p.0.0 p.0.1 i ∷ alike_numbers l m p.1 i

      pub numbers_perm : {l m : List A} → Perm l m → map number (inserts_by l []) ≡ map number (inserts_by m [])
      numbers_perm {l} {m} d = ∥∥₁_elim d (is_set (hedberg ℕ_discrete) _ _) (λ e. alike_numbers (inserts_by l []) (inserts_by m []) (inserts_permᴰ e []))
