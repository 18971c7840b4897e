-- One step of `rise` and of `sink`, and where they stop. Assumes nothing.
use Rattle.std.specs.Prelude.{Bool, ◌&&◌, ◌≡◌, List, ltb, get_or, set}
use Rattle.std.proofs.Math.Bool.{true, false, cond, and-false}
use Rattle.std.proofs.Math.Path.{refl}
use Prim.Native.Nat.{ℕ, zero, suc, ◌+◌, ◌*◌, ◌≤◌, ◌<◌}
use native.Mathlib.Omega.{arith}
use Rattle.std.proofs.Common.{lt-ltb, le-ltb}
use Rattle.ready.specs.Sift.{rise, sink, child, parent}

module _ {A : Type 0} (less : A → A → Bool) (z : A) where
  pub rise_root : (f : ℕ) (xs : List A) (i : ℕ) (e : A) → i ≤ 0 → rise less z f xs i e ≡ set xs i e
  unfolding rise
  rise_root zero xs i e h = refl
  rise_root (suc f) xs i e h = rw (le-ltb 0 i h)

  pub rise_stop : (f : ℕ) (xs : List A) (i : ℕ) (e : A) → less e (get_or xs (parent i) z) ≡ false → rise less z f xs i e ≡ set xs i e
  unfolding rise
  rise_stop zero xs i e h = refl
  rise_stop (suc f) xs i e h = rw (h, and-false (ltb 0 i))

  pub rise_turn : (f : ℕ) (xs : List A) (i : ℕ) (e : A) → 0 < i → less e (get_or xs (parent i) z) ≡ true → rise less z (suc f) xs i e ≡ rise less z f (set xs i (get_or xs (parent i) z)) (parent i) e
  unfolding rise
  rise_turn f xs i e p h = rw (lt-ltb 0 i p, h)

  pub child_left : (xs : List A) (n i : ℕ) → n ≤ 2 * i + 2 → child less z xs n i ≡ 2 * i + 1
  unfolding child
  child_left xs n i h = rw (le-ltb (2 * i + 2) n h)

  pub child_first : (xs : List A) (n i : ℕ) → less (get_or xs (2 * i + 2) z) (get_or xs (2 * i + 1) z) ≡ false → child less z xs n i ≡ 2 * i + 1
  unfolding child
  child_first xs n i h = rw (h, and-false (ltb (2 * i + 2) n))

  pub child_second : (xs : List A) (n i : ℕ) → 2 * i + 2 < n → less (get_or xs (2 * i + 2) z) (get_or xs (2 * i + 1) z) ≡ true → child less z xs n i ≡ 2 * i + 2
  unfolding child
  child_second xs n i l h = rw (lt-ltb (2 * i + 2) n l, h)

  pub child_above : (xs : List A) (n i : ℕ) → i < child less z xs n i
  unfolding child
  child_above xs n i = go (ltb (2 * i + 2) n && less (get_or xs (2 * i + 2) z) (get_or xs (2 * i + 1) z))
    where
      go : (b : Bool) → i < cond b (2 * i + 2) (2 * i + 1)
      go true = omega arith
      go false = omega arith

  pub sink_turn : (f : ℕ) (xs : List A) (n i : ℕ) (e : A) → 2 * i + 1 < n
      → sink less z (suc f) xs n i e ≡ sink less z f (set xs i (get_or xs (child less z xs n i) z)) n (child less z xs n i) e
  unfolding sink
  sink_turn f xs n i e p = rw (lt-ltb (2 * i + 1) n p)

  pub sink_end : (f : ℕ) (xs : List A) (n i : ℕ) (e : A) → n ≤ 2 * i + 1 → sink less z f xs n i e ≡ rise less z i xs i e
  unfolding sink
  sink_end zero xs n i e h = refl
  sink_end (suc f) xs n i e h = rw (le-ltb (2 * i + 1) n h)
