use mathlib.Core.Path.{◌∙◌}
use Prim.Native.Nat.{◌-◌, ◌*◌}
use native.Mathlib.Nat.{div-le_self}
use native.Mathlib.Omega.{arith}
use Rattle.chart.proofs.Numbers.{between_no_place, between-at, product}
use Rattle.chart.proofs.between.Goals as goal

pub returns-then-end-begin : goal.returns-then-end-begin
returns-then-end-begin c =
    let a = c.args in
    c.min-begin.ensures ∙ between_no_place a.from a.to a.k a.n (rw (← c.min-begin.ensures, ← c.min-end.ensures) c.then-end-begin.either)

pub overflow_mul-result : goal.overflow_mul-result
overflow_mul-result c =
    let e = c.min-end.ensures in
    let f = c.min.ensures in
    let h = c.if-n-gt64.false in
    let p = product (c.min-end.result - c.min-begin.result) c.min.result (omega arith) (omega arith) in
    omega arith

pub overflow_add-result : goal.overflow_add-result
overflow_add-result c =
    let d = c.min-begin.ensures in
    let e = c.min-end.ensures in
    let f = c.min.ensures in
    let h = c.if-n-gt64.false in
    let p = product (c.min-end.result - c.min-begin.result) c.min.result (omega arith) (omega arith) in
    let q = div-le_self ((c.min-end.result - c.min-begin.result) * c.min.result) c.args.n in
    omega arith

pub returns : goal.returns
returns c =
    let a = c.args in
    rw (c.min-begin.ensures, c.min-end.ensures, c.min.ensures) (between-at a.from a.to a.k a.n c.if-n-eq0.false c.if-n-gt64.false)
