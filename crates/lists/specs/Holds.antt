-- An array of 256 up to its count holds a list: what one more, a store, a swap, a closed gap and a search are for the list. Assumes nothing.
use Rattle.std.specs.Prelude.{◌≡◌, ℕ, zero, suc, ◌+◌, ◌-◌, ◌<◌, ◌≤◌, Bool, cond, List, [], ◌∷◌, ◌++◌, length, get_or, take, drop, set, nat_le, slice_index_or, slice_set}
use Rattle.std.proofs.Math.Path.{refl}
use Rattle.std.proofs.Common.{sym, ap, ◌∙◌, append_assoc, arith, add-one, length-take-le, take-suc-set, take-take, get_or-take, drop-cons, drop-set-lt, le-leb}
use Rattle.std.proofs.Math.ListN.{length-set}
use Rattle.std.proofs.Math.Seq.{take-set-lt}
use Rattle.std.specs.declared.option.Option.{Option}
use Rattle.std.specs.declared.option.Option.TheVariants.{Some, None}
use Rattle.lists.specs.Search.{seek, shift}

-- the place, counted from b, of the first that passes
unfoldable pub place : {A : Type 0} → (A → Bool) → List A → ℕ → Option ℕ
place p [] b = None
place p (x ∷ l) b = cond (p x) (Some b) (place p l (suc b))

module _ {A : Type 0} where
  pub record Holds (xs : List A) (n : ℕ) (l : List A) : Type 0 where
    pub sized : length xs ≡ 256
    pub fits : n ≤ 256
    pub front : take n xs ≡ l

  pub holds_to : {xs : List A} {n : ℕ} {l m : List A} → l ≡ m → Holds xs n l → Holds xs n m
  holds_to q h = record { sized = h.sized; fits = h.fits; front = h.front ∙ q }

  pub holds-length : {xs : List A} {n : ℕ} {l : List A} → Holds xs n l → length l ≡ n
  holds-length {xs} {n} h = ap length (sym h.front) ∙ length-take-le n xs (omega (arith, h.sized, h.fits))

  pub holds-append : (e : A) {xs : List A} {n : ℕ} {l : List A} → n < 256 → Holds xs n l → Holds (slice_set xs n e) (n + 1) (l ++ (e ∷ []))
  holds-append e {xs} {n} p h = record {
    sized = length-set xs n e ∙ h.sized;
    fits = omega arith;
    front = rw (add-one, take-suc-set xs n e (omega (arith, h.sized)), h.front);
  }

  pub holds-set : (i : ℕ) (v : A) {xs : List A} {n : ℕ} {l : List A} → i < n → Holds xs n l → Holds (slice_set xs i v) n (slice_set l i v)
  holds-set i v {xs} {n} p h = record { sized = length-set xs i v ∙ h.sized; fits = h.fits; front = take-set-lt n xs i v p ∙ ap (λ (x : List A). set x i v) h.front }

  pub holds_at : (z : A) (i : ℕ) {xs : List A} {n : ℕ} {l : List A} → i < n → Holds xs n l → slice_index_or xs i z ≡ slice_index_or l i z
  holds_at z i {xs} {n} p h = sym (get_or-take n xs i z p) ∙ ap (λ (x : List A). get_or x i z) h.front

  -- the array is whole and the count is 0
  pub holds-none : (xs : List A) → length xs ≡ 256 → Holds xs 0 []
  holds-none xs h = record { sized = h; fits = omega arith; front = refl }

  -- the last fills place i
  abbrev pub swap_out : A → List A → ℕ → List A
  swap_out z l i = take (length l - 1) (slice_set l i (slice_index_or l (length l - 1) z))

  pub holds-swap : (z : A) (i : ℕ) {xs : List A} {n : ℕ} {l : List A} → i < n → Holds xs n l → Holds (slice_set xs i (slice_index_or xs (n - 1) z)) (n - 1) (swap_out z l i)
  holds-swap z i {xs} {n} {l} p h = record {
    sized = length-set xs i (slice_index_or xs (n - 1) z) ∙ h.sized;
    fits = omega (arith, h.fits);
    front =
        sym (take-take (n - 1) n (slice_set xs i (slice_index_or xs (n - 1) z)) (omega arith))
        ∙ ap (take (n - 1)) (take-set-lt n xs i (slice_index_or xs (n - 1) z) p ∙ ap (λ (x : List A). set x i (slice_index_or xs (n - 1) z)) h.front)
        ∙ ap (λ (v : A). take (n - 1) (slice_set l i v)) (holds_at z (n - 1) (omega arith) h)
        ∙ ap (λ (m : ℕ). take (m - 1) (slice_set l i (slice_index_or l (m - 1) z))) (sym (holds-length h));
  }

  -- place i is taken out
  abbrev pub take_out : List A → ℕ → List A
  take_out l i = take i l ++ drop (suc i) l

  length_shift : (z : A) (f : ℕ) (xs : List A) (i : ℕ) → length (shift z f xs i) ≡ length xs
  unfolding shift
  length_shift z zero xs i = refl
  length_shift z (suc f) xs i = length_shift z f (slice_set xs i (slice_index_or xs (suc i) z)) (suc i) ∙ length-set xs i (slice_index_or xs (suc i) z)

  shift_front : (z : A) (f : ℕ) (xs : List A) (i n : ℕ) → suc (i + f) ≡ n → n ≤ length xs → take (i + f) (shift z f xs i) ≡ take i xs ++ drop (suc i) (take n xs)
  unfolding shift
  shift_front z zero xs i n e h = shown
    where
      nothing : (l : List A) (k : ℕ) → length l ≤ k → drop k l ≡ []
      nothing [] zero q = refl
      nothing [] (suc k) q = refl
      nothing (x ∷ l) zero q = absurd (omega arith)
      nothing (x ∷ l) (suc k) q = nothing l k (omega arith)

      nil : (l : List A) → l ++ [] ≡ l
      nil [] = refl
      nil (x ∷ l) = ap (λ (y : List A). x ∷ y) (nil l)

      shown : take (i + 0) xs ≡ take i xs ++ drop (suc i) (take n xs)
      shown = rw (nothing (take n xs) (suc i) (omega (arith, length-take-le n xs h)), nil) (let q : i + 0 ≡ i = omega arith in ap (λ (k : ℕ). take k xs) q)
  shift_front z (suc f) xs i n e h =
      let v = get_or xs (suc i) z in
      let ih = shift_front z f (slice_set xs i v) (suc i) n (omega arith) (rw length-set h) in
      let a = take-suc-set xs i v (omega arith) in
      let b = ap (drop (suc (suc i))) (take-set-lt n xs i v (omega arith)) ∙ drop-set-lt (suc (suc i)) (take n xs) i v (omega arith) in
      let c = drop-cons (take n xs) (suc i) z (omega (arith, length-take-le n xs h)) ∙ ap (λ (x : A). x ∷ drop (suc (suc i)) (take n xs)) (get_or-take n xs (suc i) z (omega arith)) in
      let q : i + suc f ≡ suc i + f = omega arith in
      ap (λ (k : ℕ). take k (shift z f (slice_set xs i v) (suc i))) q ∙ ih
      ∙ ap (λ (x : List A). x ++ drop (suc (suc i)) (take n (slice_set xs i v))) a
      ∙ ap (λ (x : List A). (take i xs ++ (v ∷ [])) ++ x) b
      ∙ append_assoc (take i xs) (v ∷ []) (drop (suc (suc i)) (take n xs))
      ∙ ap (λ (x : List A). take i xs ++ x) (sym c)

  pub holds-shift : (z : A) (i : ℕ) {xs : List A} {n : ℕ} {l : List A} → i < n → Holds xs n l → Holds (shift z (n - 1 - i) xs i) (n - 1) (take_out l i)
  holds-shift z i {xs} {n} {l} p h = record {
    sized = length_shift z (n - 1 - i) xs i ∙ h.sized;
    fits = omega (arith, h.fits);
    front =
        (let q : n - 1 ≡ i + (n - 1 - i) = omega arith in ap (λ (k : ℕ). take k (shift z (n - 1 - i) xs i)) q)
        ∙ shift_front z (n - 1 - i) xs i n (omega arith) (omega (arith, h.sized, h.fits))
        ∙ ap (λ (x : List A). x ++ drop (suc i) (take n xs)) (sym (take-take i n xs (omega arith)))
        ∙ ap (λ (x : List A). take i x ++ drop (suc i) x) h.front;
  }

  -- the search of a loop is the search of the list
  seek-place : (z : A) (p : A → Bool) (f : ℕ) (xs : List A) (i : ℕ) → i + f ≤ length xs → seek z p f xs i ≡ place p (take f (drop i xs)) i
  unfolding seek place
  seek-place z p zero xs i h = refl
  seek-place z p (suc f) xs i h = rw (drop-cons xs i z (omega arith), seek-place z p f xs (suc i) (omega arith))

  pub holds-seek : (z : A) (p : A → Bool) {xs : List A} {n : ℕ} {l : List A} → Holds xs n l → cond (nat_le n 256) (seek z p n xs 0) None ≡ place p l 0
  holds-seek z p {xs} {n} h =
      ap (λ (b : Bool). cond b (seek z p n xs 0) None) (le-leb n 256 h.fits)
      ∙ seek-place z p n xs 0 (omega (arith, h.sized, h.fits)) ∙ ap (λ (x : List A). place p x 0) h.front
