use Rattle.std.proofs.Common.{◌≡◌, ℕ, ◌≤◌, min, take, drop, sym, ap, ◌∙◌, subst, arith}
use Rattle.tape.specs.Fields.{from_little_endian, field, none_yet, next-byte, next_fits}
use Rattle.tape.proofs.fields.low.Goals as goal

pub loop-i-init : goal.loop-i-init
loop-i-init c =
    let bs = c.args.bs.now in
    let w = min c.args.width 8 in
    none_yet w bs ∙ ap (λ (i : ℕ). from_little_endian (drop i (take w bs))) (sym c.min-i.ensures)

pub overflow_mul-n : goal.overflow_mul-n
overflow_mul-n c =
    let l = c.loop-i in
    let within : l.i ≤ min c.args.width 8 = subst (λ (k : ℕ). l.i ≤ k) c.min-i.ensures l.auto.i in
    let h = next_fits (min c.args.width 8) c.args.bs.now l.i l.n (λ i. (c.type_inv.bs i).fits) (omega arith) c.loop-i-test.true within l.invariant in
    record { fits = omega arith }

pub overflow_add-n : goal.overflow_add-n
overflow_add-n c =
    let l = c.loop-i in
    let within : l.i ≤ min c.args.width 8 = subst (λ (k : ℕ). l.i ≤ k) c.min-i.ensures l.auto.i in
    let h = next_fits (min c.args.width 8) c.args.bs.now l.i l.n (λ i. (c.type_inv.bs i).fits) (omega arith) c.loop-i-test.true within l.invariant in
    let e = c.from.ensures ∙ c.byte.ensures in
    record { fits = omega arith }

pub loop-i-preserved : goal.loop-i-preserved
loop-i-preserved c =
    let l = c.loop-i in
    let within : l.i ≤ min c.args.width 8 = subst (λ (k : ℕ). l.i ≤ k) c.min-i.ensures l.auto.i in
    next-byte (min c.args.width 8) c.args.bs.now l.i l.n _ c.loop-i-test.true within l.invariant (c.from.ensures ∙ c.byte.ensures)

pub returns : goal.returns
unfolding field
returns c =
    let z : c.loop-i.i ≡ 0 = omega (arith, c.loop-i-test.false) in
    c.loop-i.invariant ∙ ap (λ (k : ℕ). from_little_endian (drop k (take (min c.args.width 8) c.args.bs.now))) z
