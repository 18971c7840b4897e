use Rattle.std.proofs.Common.{◌≡◌, Some, None, Err, sym, ap, ◌∙◌, arith}
use Rattle.std.specs.Option.{ok_or}
use Rattle.lodge.specs.declared.Refusal.TheVariants.{TooLong}
use Rattle.std.proofs.lemmas.Result.{err_from_is_err_and}
use Rattle.lodge.proofs.Theorem.{not_proper, unordered, searching, this_week_lem, next_week_lem, no_week, found_inside}
use Rattle.lodge.proofs.earliest.Goals as goal

pub returns-then-hours-gt16 : goal.returns-then-hours-gt16
returns-then-hours-gt16 c = not_proper _ _ _ c.then-hours-gt16.either

pub returns-then-not-is_orderly : goal.returns-then-not-is_orderly
returns-then-not-is_orderly c = unordered _ _ _ c.if-hours-gt16.false c.if-minute-gt4294967295.false c.if-length-eq0.false (sym c.is_orderly.ensures ∙ c.if-not-is_orderly.true)

pub overflow_add-result : goal.overflow_add-result
overflow_add-result c =
    record { fits = omega (arith, found_inside _ _ _ _ (sym c.is_orderly.ensures ∙ c.if-not-is_orderly.false) (sym c.first_from.ensures ∙ c.in-Some.is), c.if-minute-gt4294967295.false) }

pub returns-in-Some : goal.returns-in-Some
returns-in-Some c =
    this_week_lem _ _ _ _ (sym c.first_from.ensures ∙ c.in-Some.is) ∙ sym (searching _ _ _ c.if-hours-gt16.false c.if-minute-gt4294967295.false c.if-length-eq0.false (sym c.is_orderly.ensures ∙ c.if-not-is_orderly.false))

pub returns-in_err-t : goal.returns-in_err-t
returns-in_err-t c =
    let p = err_from_is_err_and c.from_residual.result c.from_residual.ensures.1 in
    let n : c.first_from-2.result ≡ None = grind arith in
    let w : c.ok_or.result ≡ Err TooLong = c.ok_or.ensures.value ∙ ap (λ o. ok_or o TooLong) n in
    rw (p.1, p.2) (sym c.in_err-t.was ∙ w ∙ no_week _ _ _ (sym c.first_from.ensures ∙ c.in_default.is) (sym c.first_from-2.ensures ∙ n) ∙ sym (searching _ _ _ c.if-hours-gt16.false c.if-minute-gt4294967295.false c.if-length-eq0.false (sym c.is_orderly.ensures ∙ c.if-not-is_orderly.false)))

pub overflow_add-result-3 : goal.overflow_add-result-3
overflow_add-result-3 c =
    let n : c.first_from-2.result ≡ Some c.in_ok-t.t = grind arith in
    record { fits = omega (arith, found_inside _ _ _ _ (sym c.is_orderly.ensures ∙ c.if-not-is_orderly.false) (sym c.first_from-2.ensures ∙ n), c.if-minute-gt4294967295.false) }

pub returns : goal.returns
returns c =
    let n : c.first_from-2.result ≡ Some c.in_ok-t.t = grind arith in
    next_week_lem _ _ _ _ (sym c.first_from.ensures ∙ c.in_default.is) (sym c.first_from-2.ensures ∙ n) ∙ sym (searching _ _ _ c.if-hours-gt16.false c.if-minute-gt4294967295.false c.if-length-eq0.false (sym c.is_orderly.ensures ∙ c.if-not-is_orderly.false))
