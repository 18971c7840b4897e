-- No start and no clock is a NaN: an f64 sum of times that are none, one of them finite, is none, and what compares as ≤ is none. Assumes nothing.
use Prim.Native.Nat.{ℕ, zero, suc, ◌+◌, ◌-◌, ◌*◌, ◌/◌, ◌%◌, ◌^◌, compare}
use Rattle.std.specs.Prelude.{Bool, true, false, not, ◌&&◌, cond, T, ltb, Float}
use Rattle.std.specs.Bool.{beq}
use Rattle.std.specs.Float.{nan, inf, fin, binary64}
use Rattle.std.specs.Float.Ieee.{lt, le, eq, sum, round, units, odd, is_nan, neg, low, emax, prec, size, nearest, up, down, add}
use Rattle.std.specs.Float.Ieee.Fits.{and_r}
use Rattle.floats.specs.Arithmetic.{whole}
use Rattle.ledger.specs.Calls.{PushKind, absolute, relative, by_duration}
use Rattle.ledger.specs.Refusals.{within}
use Rattle.ledger.specs.Steps.{pushed_time}
use Rattle.ledger.specs.NotNan.{billion}

pub le-not_nan : (x y : Float) → T (le x y) → T (not (is_nan x))
unfolding le is_nan lt eq
le-not_nan nan y h = h
le-not_nan (inf s) y h = tt
le-not_nan (fin s m e) y h = tt

cond-not_nan : (b : Bool) (x y : Float) → T (not (is_nan x)) → T (not (is_nan y)) → T (not (is_nan (cond b x y)))
cond-not_nan true x y h k = h
cond-not_nan false x y h k = k

odd_not_nan : (d : ℕ) (s : Bool) (q k l : ℕ) → T (not (is_nan (odd d s q k l)))
unfolding odd is_nan
odd_not_nan d s zero k l = tt
odd_not_nan d s (suc q) k l = tt

units_not_nan : (s : Bool) (q k : ℕ) → T (not (is_nan (units binary64 s q k)))
unfolding units is_nan
units_not_nan s q k = cond-not_nan (ltb (q * 2 ^ k) (2 ^ (low binary64 + suc (emax binary64)))) (odd (suc (prec binary64)) s q k (low binary64)) (inf s) (odd_not_nan (suc (prec binary64)) s q k (low binary64)) tt

round-not_nan : (s : Bool) (n d : ℕ) → T (not (is_nan (round binary64 s n d)))
unfolding round
round-not_nan s n d =
    let m = n * 2 ^ low binary64 in
    let k = size (m / d) - prec binary64 in
    let u = d * 2 ^ k in
    units_not_nan s (nearest (m / u) (compare (m % u * 2) u)) k

sum-not_nan : (s : Bool) (a : ℕ) (t : Bool) (b c : ℕ) → T (not (is_nan (sum binary64 s a t b c)))
unfolding sum
sum-not_nan s a t b c =
    cond-not_nan (beq s t) (round binary64 s (a + b) c) (cond (ltb a b) (round binary64 t (b - a) c) (round binary64 (s && ltb b a) (a - b) c))
    (round-not_nan s (a + b) c)
    (cond-not_nan (ltb a b) (round binary64 t (b - a) c) (round binary64 (s && ltb b a) (a - b) c) (round-not_nan t (b - a) c) (round-not_nan (s && ltb b a) (a - b) c))

within-not_nan : (x : Float) → T (within x) → T (not (is_nan x))
unfolding within
within-not_nan x h = le-not_nan x billion (and_r (le (neg billion) x) (le x billion) h)

pub pushed_time-not_nan : (k : PushKind) (t x : Float) → T (not (is_nan t)) → T (within x) → T (not (is_nan (pushed_time k t x)))
unfolding pushed_time within is_nan le neg whole add
pushed_time-not_nan absolute t x h w = within-not_nan x w
pushed_time-not_nan by_duration t x h w = within-not_nan x w
pushed_time-not_nan relative t nan h w = absurd w
pushed_time-not_nan relative t (inf true) h w = absurd w
pushed_time-not_nan relative t (inf false) h w = absurd w
pushed_time-not_nan relative nan (fin s m e) h w = absurd h
pushed_time-not_nan relative (inf u) (fin s m e) h w = tt
pushed_time-not_nan relative (fin u n d) (fin s m e) h w = sum-not_nan s (m * up e * down d) u (n * up d * down e) (down e * down d)
