-- One turn of the loop that puts samples. Assumes nothing.
use mathlib.Core.Path.{◌≡◌}
use mathlib.Core.List.{List}
use Prim.Native.Nat.{ℕ, suc, ◌+◌, ◌-◌, ◌*◌, ◌≤◌, ◌<◌}
use native.Mathlib.Omega.{arith}
use lib.Ieee.{Float, binary32, of_bits}
use lib.ListN.{set}
use lib.Seq.{sets}
use Rattle.tape.specs.Fields.{field}
use Rattle.recording.specs.Samples.{samples_from}

module _ (bs : List ℕ) (at n : ℕ) where
  pub start : (l : List Float) → sets l (at + 0) (samples_from bs (n - 0) 0) ≡ sets l at (samples_from bs n 0)
  start l =
      let p : at + 0 ≡ at = omega arith in
      let q : n - 0 ≡ n = omega arith in
      rw (p, q)

  pub turn : (l : List Float) (i : ℕ) (x : Float) → i < n → x ≡ of_bits binary32 (field bs (4 * i) 4)
      → sets (set l (at + i) x) (at + (i + 1)) (samples_from bs (n - (i + 1)) (i + 1)) ≡ sets l (at + i) (samples_from bs (n - i) i)
  unfolding samples_from
  turn l i x h e =
      let p : at + (i + 1) ≡ suc (at + i) = omega arith in
      let q : n - i ≡ suc (n - (i + 1)) = omega arith in
      let s : i + 1 ≡ suc i = omega arith in
      rw (p, q, s, e)

  pub done : (l : List Float) (i : ℕ) → n ≤ i → sets l (at + i) (samples_from bs (n - i) i) ≡ l
  unfolding samples_from
  done l i h = let q : n - i ≡ 0 = omega arith in rw q
