-- `floats::rounded` meets its contract. Assumes nothing.
use Rattle.std.proofs.Common.{◌/◌, sym, ◌∙◌, div-le_self, add-one, arith}
use native.Mathlib.Nat.{mod-le}
use Rattle.floats.specs.Closest.{closest_lt, closest_eq, closest_gt}
use Rattle.floats.proofs.rounded.Goals as goal

pub overflow_mul-rest : goal.overflow_mul-rest
overflow_mul-rest c = omega (arith, mod-le c.args.a c.args.b)

pub overflow_add-result : goal.overflow_add-result
overflow_add-result c = omega (arith, div-le_self c.args.a c.args.b)

pub overflow_add-result-else-rest-b-2 : goal.overflow_add-result-else-rest-b-2
overflow_add-result-else-rest-b-2 c = omega (arith, div-le_self c.args.a c.args.b)

pub returns-then-rest-b : goal.returns-then-rest-b
returns-then-rest-b c = sym (closest_lt c.args.a c.args.b (omega arith))

pub returns-then-rest-b-2 : goal.returns-then-rest-b-2
returns-then-rest-b-2 c = sym (closest_eq c.args.a c.args.b (omega arith))

pub returns-else-rest-b-2 : goal.returns-else-rest-b-2
returns-else-rest-b-2 c =
    let a = c.args.a in
    let b = c.args.b in
    add-one (a / b) ∙ sym (closest_gt a b (omega arith))
