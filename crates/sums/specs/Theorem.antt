-- Document 02, Paper 9: "any order of at most 256 contributions added from +0.0 gives the same bits, and these are the exact sum." Assumes nothing.
use Rattle.std.specs.Prelude.{suc, ◌≤◌, ◌≡◌, refl, ◌&&◌, T, ℤ, ◌+ℤ◌, length, Float}
use Rattle.std.proofs.Common.{sym, ap, ◌∙◌, subst, arith}
use Rattle.std.proofs.Math.Logic.{∥∥₁_elim}
use mathlib.Core.List.{List, Perm, Permᴰ}
use Rattle.std.proofs.Math.Nat.{ℕ_set}
use Rattle.std.proofs.Math.Dec.{T_prop}
use Rattle.std.proofs.Math.IntN.{+ℤ_comm, +ℤ_assoc, ℤ_set}
use Rattle.std.specs.Float.Ieee.Fits.{and_l, and_r, and_i}
use Rattle.floats.specs.Arithmetic.{zeroᶠ}
use Rattle.sums.specs.Multiples.{multiple, multiples, summed, numerator, exact_sum, Exactly}
use Rattle.sums.specs.Exact.{rounded}

pub record Sums (l : List Float) : Type 0 where
  pub any_order : (r : List Float) → Perm l r → summed zeroᶠ r ≡ summed zeroᶠ l
  pub exact : Exactly (summed zeroᶠ l) (exact_sum l)
