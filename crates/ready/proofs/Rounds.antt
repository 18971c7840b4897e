-- The loops of push and pop, here and in the engine: what is left to do gives the result r of the definition, with some fuel that is enough.
use Rattle.std.specs.Prelude.{Bool, true, false, ◌≡◌, List, ℕ, zero, suc, ◌+◌, ◌*◌, ◌≤◌, ◌<◌, get_or, set}
use Rattle.std.proofs.Common.{sym, ◌∙◌, arith}
use Rattle.ready.specs.Sift.{rise, sink, child, parent}
use Rattle.ready.proofs.Steps.{rise_root, rise_stop, rise_turn, sink_turn, sink_end, child_above}
use Rattle.ready.specs.Rounds.{Rising, Sinking}

module _ {A : Type 0} (less : A → A → Bool) (z : A) where
  pub rising_on : (xs : List A) (i : ℕ) (e : A) (r : List A) → 0 < i → less e (get_or xs (parent i) z) ≡ true → Rising less z xs i e r → Rising less z (set xs i (get_or xs (parent i) z)) (parent i) e r
  rising_on xs i e r p h s = go s.fuel s.enough s.gives
    where
      go : (f : ℕ) → i ≤ f → rise less z f xs i e ≡ r → Rising less z (set xs i (get_or xs (parent i) z)) (parent i) e r
      go zero l g = absurd (omega arith)
      go (suc f) l g = record { fuel = f; enough = omega arith; gives = sym (rise_turn less z f xs i e p h) ∙ g }

  pub risen_root : (xs : List A) (i : ℕ) (e : A) (r : List A) → i ≤ 0 → Rising less z xs i e r → set xs i e ≡ r
  risen_root xs i e r l s = sym (rise_root less z s.fuel xs i e l) ∙ s.gives

  pub risen_stop : (xs : List A) (i : ℕ) (e : A) (r : List A) → less e (get_or xs (parent i) z) ≡ false → Rising less z xs i e r → set xs i e ≡ r
  risen_stop xs i e r h s = sym (rise_stop less z s.fuel xs i e h) ∙ s.gives

  -- the loop has found the child c and its element x
  pub sinking_on : (xs : List A) (n i : ℕ) (e : A) (r : List A) (c : ℕ) (x : A) → 2 * i + 1 < n → child less z xs n i ≡ c → get_or xs c z ≡ x
      → Sinking less z xs n i e r → Sinking less z (set xs i x) n c e r
  sinking_on xs n i e r c x p hc hx s = rw (← hx, ← hc) (go s.fuel s.enough s.gives)
    where
      go : (f : ℕ) → n ≤ i + f → sink less z f xs n i e ≡ r → Sinking less z (set xs i (get_or xs (child less z xs n i) z)) n (child less z xs n i) e r
      go zero l g = absurd (omega arith)
      go (suc f) l g = record { fuel = f; enough = omega (arith, child_above less z xs n i); gives = sym (sink_turn less z f xs n i e p) ∙ g }

  -- where place i has no child, e rises from it
  pub sunk : (xs : List A) (n i : ℕ) (e : A) (r : List A) → n ≤ 2 * i + 1 → Sinking less z xs n i e r → rise less z i xs i e ≡ r
  sunk xs n i e r h s = sym (sink_end less z s.fuel xs n i e h) ∙ s.gives
