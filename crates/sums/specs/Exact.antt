-- Fewer than 512 multiples of 1/32768 within -1 and 1 add up in f32 with no rounding: no sum on the way has more than 24 binary digits. Assumes nothing.
use Rattle.std.specs.Prelude.{ℕ, zero, suc, ◌+◌, ◌-◌, ◌*◌, ◌/◌, ◌%◌, ◌^◌, ◌≤◌, ◌<◌, ◌≡◌, refl, Bool, true, false, not, ◌&&◌, cond, List, [], ◌∷◌, T, leb, ltb, eqb, ℤ, pos, negsuc, nat_abs, ◌+ℤ◌, length, Float}
use Rattle.std.proofs.Common.{sym, ap, ◌∙◌, subst, le_trans, le_of_eq, le_of_lt, lt_of_le_of_lt, mul_assoc, mul_comm, mul-le-mul_left, mul-le-mul_right, le_of_mul-le-mul_right, add-zero, div-add-mod', arith, leb→le, le→leb, eqb→eq, ltb→lt, nltb→le, lit<}
use Rattle.std.proofs.Math.Nat.{mul-mod_left, div-le_of_le-mul}
use Rattle.std.proofs.Math.Dec.{eqb_refl}
use Rattle.std.proofs.Math.IntN.{+ℤ_idr, +ℤ_idl, +ℤ_assoc}
use Rattle.std.specs.Float.{nan, inf, fin, binary32}
use Rattle.std.specs.Float.Ieee.{up, down, round, sum}
use Rattle.std.specs.Float.Ieee.Fits.{and_l, and_r, and_i}
use Rattle.std.specs.Float.Ieee.Exact.{HasValue, round_exact}
use Rattle.floats.specs.Arithmetic.{◌+ˢ◌, zeroᶠ}
use Rattle.math.specs.Addition.{add_at}
use Rattle.sums.specs.Multiples.{multiple, multiples, summed, signed, numerator, exact_sum, below_zero, Exactly}

unfoldable pub rounded : ℤ → Float
rounded z = round binary32 (below_zero z) (nat_abs z) 32768

-- ---- what a multiple is: a sign, and a size of at most 32768

pub record Part (x : Float) : Type 0 where
  pub sign : Bool
  pub size : ℕ
  pub small : size ≤ 32768
  pub value : HasValue x sign size 32768
  pub counted : numerator x ≡ signed sign size
