-- The sample index n of a value x that is not negative, below the cut at the top: n - 1/2 ≤ x < n + 1/2, so n is nearest and a half goes up. Assumes nothing.
use Rattle.std.specs.Prelude.{◌≡◌, ℕ, ◌+◌, ◌-◌, ◌*◌, ◌/◌, ◌^◌, ◌<◌, ◌≤◌, min, false, ℤ}
use Rattle.std.proofs.Common.{subst, mul-pos, div-mul-le_self, div-lt_iff_lt-mul, arith}
use Rattle.std.specs.Float.{fin}
use Rattle.std.specs.Float.Ieee.{up, down}
use Rattle.std.specs.Float.Ieee.Fits.{down_pos}
use Rattle.floats.specs.Floats.{index}

-- x is a / c
pub record IndexOf (a c n : ℕ) : Type 0 where
  pub above : n * (2 * c) ≤ 2 * a + c
  pub below : 2 * a + c < (n + 1) * (2 * c)

quotient : (a c : ℕ) → 0 < c → IndexOf a c ((2 * a + c) / (2 * c))
quotient a c C = record {
  above = div-mul-le_self (2 * a + c) (2 * c);
  below = (div-lt_iff_lt-mul {x = 2 * a + c} (mul-pos {m = 2} (omega arith) C)).0 (next ((2 * a + c) / (2 * c)));
}
  where
    next : (n : ℕ) → n < n + 1
    next n = omega arith

pub index_nearest : (m : ℕ) (e : ℤ) → index (fin false m e) < 2 ^ 64 - 1 → IndexOf (m * up e) (down e) (index (fin false m e))
unfolding index
index_nearest m e h = subst (IndexOf (m * up e) (down e)) (uncut ((2 * (m * up e) + down e) / (2 * down e)) (2 ^ 64 - 1) h) (quotient (m * up e) (down e) (down_pos e))
  where
    uncut : (n top : ℕ) → min n top < top → n ≡ min n top
    uncut n top h = omega arith
