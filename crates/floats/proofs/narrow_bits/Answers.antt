-- `floats::narrow_bits` meets its contract. Assumes nothing.
use Rattle.std.proofs.Common.{◌≡◌, ℕ, ◌+◌, ◌-◌, ◌*◌, ◌%◌, ◌^◌, ◌<◌, ◌≤◌, min, sym, ap, ◌∙◌, subst, arith, pow_pos}
use Rattle.floats.proofs.Fields.{sgn, fld, wanted, unit-is, closest_le, bits-normal, bits-subnormal, bits_zero}
use Rattle.floats.proofs.narrow_bits.Goals as goal
use Rattle.floats.proofs.narrow_bits.Goals.{Joined-field-gt896, then-field-gt896, else-field-gt896+then-field-gt872, else-field-gt896+else-field-gt872}

-- the bits that are wanted, by the size that the three arms make
joined : (c : Joined-field-gt896) → wanted c.args.b ≡ sgn c.args.b + min c.if-field-gt896.size (255 * 2 ^ 23)
joined c =
    let b = c.args.b in
    let h : b < 2 ^ 64 = omega arith in
    elim c.if-field-gt896.branch [
      | then-field-gt896 w ↦ bits-normal b h c.requires w.if-field-gt896.true ∙ ap (λ (z : ℕ). sgn b + min z (255 * 2 ^ 23)) (sym (w.size-is ∙ ap (λ (q : ℕ). (fld b - 897) * 2 ^ 23 + q) w.rounded.ensures))
      | else-field-gt896+then-field-gt872 w ↦ bits-subnormal b h w.if-field-gt872.true w.if-field-gt896.false ∙ ap (λ (z : ℕ). sgn b + min z (255 * 2 ^ 23)) (sym (w.size-is ∙ w.rounded-then-field-gt872.ensures))
      | else-field-gt896+else-field-gt872 w ↦ bits_zero b h w.if-field-gt872.false ∙ ap (λ (z : ℕ). sgn b + min z (255 * 2 ^ 23)) (sym w.size-is)
    ]

pub overflow_add-size : goal.overflow_add-size
overflow_add-size c =
    let t = c.args.b % 2 ^ 52 in
    let q : c.rounded.result ≤ 2 ^ 24 = subst (λ (x : ℕ). x ≤ 2 ^ 24) (sym c.rounded.ensures) (closest_le (2 ^ 52 + t) 29 (omega arith) (omega arith)) in
    omega arith

pub rounded-requires-then-field-gt872 : goal.rounded-requires-then-field-gt872
rounded-requires-then-field-gt872 c = record { fact_1 = subst (λ (u : ℕ). 0 < u) (sym (unit-is (fld c.args.b) c.if-field-gt872.true)) (pow_pos (926 - fld c.args.b)); fact_2 = omega arith }

pub returns-then-size-lt2139095040 : goal.returns-then-size-lt2139095040
returns-then-size-lt2139095040 c = omega (arith, joined c.before.before)

pub returns-else-size-lt2139095040 : goal.returns-else-size-lt2139095040
returns-else-size-lt2139095040 c = omega (arith, joined c.before)
