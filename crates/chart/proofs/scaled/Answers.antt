use Prim.Native.Nat.{◌≤◌}
use mathlib.Core.Path.{refl}
use native.Mathlib.Omega.{arith}
use native.Mathlib.Nat.{mul-le-mul}
use borrow.Author.Tests.{lt-ltb, le-ltb}
use Rattle.chart.specs.Scale.{scaled_of}
use Rattle.chart.proofs.scaled.Goals as goal

pub returns-then-e-gt149 : goal.returns-then-e-gt149
unfolding scaled_of
returns-then-e-gt149 c = rw (lt-ltb _ _ c.if-e-gt149.true) refl

pub returns-then-e-lt87 : goal.returns-then-e-lt87
unfolding scaled_of
returns-then-e-lt87 c = rw (le-ltb _ _ c.if-e-gt149.false, lt-ltb _ _ c.if-e-lt87.true) refl

pub overflow_mul-result : goal.overflow_mul-result
overflow_mul-result c =
    let a = c.from.ensures in
    let b = c.from-2.ensures in
    let s = c.ranges.scale.fits in
    let x : c.from.result ≤ 16_777_216 = omega arith in
    let y : c.from-2.result ≤ 4_294_967_296 = omega arith in
    let p = mul-le-mul x y in
    omega arith

pub returns : goal.returns
unfolding scaled_of
returns c = rw (le-ltb _ _ c.if-e-gt149.false, le-ltb _ _ c.if-e-lt87.false, c.from.ensures, c.from-2.ensures) refl
