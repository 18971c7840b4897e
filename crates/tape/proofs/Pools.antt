-- What the loop of `fill` has done after k turns: the first k samples stand, and the rest is to come. Assumes nothing.
use Rattle.std.proofs.Common.{◌≡◌, ℕ, suc, ◌+◌, ◌-◌, ◌<◌, ◌≤◌, List, ◌++◌, length, take, set, refl, ◌∙◌, append_assoc, append-nil, le_antisymm, add-one, arith, length-set, take-suc-set}
use lib.Ieee.{Float}
use lib.Seq.{take-length}
use Rattle.tape.specs.Pool.{pool_from, pool_sample}

module _ (l₀ : List Float) where
  pub record Filled (k : ℕ) (l : List Float) : Type 0 where
    pub within : k ≤ length l
    pub long : length l ≡ length l₀
    pub rest : take k l ++ pool_from k (length l - k) ≡ pool_from 0 (length l₀)

  pub start : Filled 0 l₀
  start = let z : length l₀ - 0 ≡ length l₀ = omega arith in record { within = omega arith; long = refl; rest = rw z }

  pub turn : {k : ℕ} {l : List Float} → Filled k l → k < length l → (v : Float) → v ≡ pool_sample k → Filled (k + 1) (set l k v)
  unfolding pool_from
  turn {k} {l} f h v e =
      let n : length l - k ≡ suc (length l - suc k) = omega arith in
      record {
        within = simp length-set (omega arith);
        long = length-set l k v ∙ f.long;
        rest = rw (add-one, length-set, take-suc-set l k v, append_assoc, e) (rw n at f.rest);
      }

  pub done : {k : ℕ} {l : List Float} → Filled k l → length l ≤ k → l ≡ pool_from 0 (length l₀)
  unfolding pool_from
  done {k} {l} f h =
      let e : k ≡ length l = le_antisymm f.within h in
      let z : length l - length l ≡ 0 = omega arith in
      rw (e, z, take-length, append-nil) at f.rest
