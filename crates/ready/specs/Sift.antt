-- A binary heap in a list: an element finds its place on the way up and on the way down. `less` says which of two leaves first, `z` is what
-- stands past the list's end. The place i is free: what stands there is lost.
use Rattle.std.specs.Prelude.{Bool, ◌&&◌, List, ltb, get_or, set}
use Rattle.std.proofs.Math.Bool.{cond}
use Prim.Native.Nat.{ℕ, zero, suc, ◌+◌, ◌-◌, ◌*◌, ◌/◌}

abbrev pub parent : ℕ → ℕ
parent i = (i - 1) / 2

module _ {A : Type 0} (less : A → A → Bool) (z : A) where
  -- e goes to place i, or, where it leaves before the parent, the parent moves there and e goes on from the parent's place
  unfoldable pub rise : ℕ → List A → ℕ → A → List A
  rise zero xs i e = set xs i e
  rise (suc f) xs i e =
      let r = rise f (set xs i (get_or xs (parent i) z)) (parent i) e in
      cond (ltb 0 i && less e (get_or xs (parent i) z)) r (set xs i e)

  -- the child of i that leaves first, of those below n
  unfoldable pub child : List A → ℕ → ℕ → ℕ
  child xs n i = cond (ltb (2 * i + 2) n && less (get_or xs (2 * i + 2) z) (get_or xs (2 * i + 1) z)) (2 * i + 2) (2 * i + 1)

  -- place i is filled by that child and its place by the next, down to a place without one; from there e rises
  unfoldable pub sink : ℕ → List A → ℕ → ℕ → A → List A
  unfolding rise child
  sink zero xs n i e = rise i xs i e
  sink (suc f) xs n i e =
      let r = sink f (set xs i (get_or xs (child xs n i) z)) n (child xs n i) e in
      cond (ltb (2 * i + 1) n) r (rise i xs i e)
