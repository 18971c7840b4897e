use Rattle.std.proofs.Common.{sym, ap, ◌∙◌, inl, inr, arith}
use Rattle.rises.specs.Words.{in_range}
use Rattle.rises.proofs.Digits.{empty-word, zero_first, none_read, positive, digit-read, no_digit, too_much, all_read}
use Rattle.rises.proofs.count_of.Goals as goal
use Rattle.rises.proofs.count_of.Goals.{then-word-eq0-via-then-word-eq0, then-word-eq0-via-else-word-eq0+then-word-eq48, then-b-lt48-via-then-b-lt48, then-b-lt48-via-else-b-lt48+then-b-gt57}

pub returns-then-word-eq0 : goal.returns-then-word-eq0
returns-then-word-eq0 c =
    elim c.then-word-eq0.branch [
      | then-word-eq0-via-then-word-eq0 w ↦ empty-word _ w.if-word-eq0.true
      | then-word-eq0-via-else-word-eq0+then-word-eq48 w ↦ zero_first _ (omega (arith, w.if-word-eq0.false)) w.if-word-eq48.true
    ]

pub loop-b-init : goal.loop-b-init
loop-b-init c = (omega arith, λ h. h, none_read _ (omega (arith, c.if-word-eq0.false)) c.if-word-eq48.false)

pub returns-then-b-lt48 : goal.returns-then-b-lt48
returns-then-b-lt48 c =
    sym
    (ap in_range
    (no_digit _ _ _ c.loop-b-test.true
    (elim c.then-b-lt48.branch [
      | then-b-lt48-via-then-b-lt48 w ↦ inl w.if-b-lt48.true
      | then-b-lt48-via-else-b-lt48+then-b-gt57 w ↦ inr (w.if-b-lt48.false, w.if-b-gt57.true)
    ])))
    ∙ c.loop-b.invariant.2

pub returns-then-value-gt256 : goal.returns-then-value-gt256
returns-then-value-gt256 c =
    let d = digit-read _ _ _ c.loop-b-test.true c.if-b-lt48.false c.if-b-gt57.false in
    sym (too_much _ _ (rw (← c.from.ensures) c.if-value-gt256.true)) ∙ sym (ap in_range d) ∙ c.loop-b.invariant.2

pub loop-b-preserved : goal.loop-b-preserved
loop-b-preserved c =
    let v = c.loop-b.invariant in
    let d = digit-read _ _ _ c.loop-b-test.true c.if-b-lt48.false c.if-b-gt57.false in
    rw c.from.ensures
    ((rw c.from.ensures at c.if-value-gt256.false), (λ _. positive _ _ _ c.if-word-eq48.false c.if-b-lt48.false v.1), sym (ap in_range d) ∙ v.2)

pub returns : goal.returns
returns c =
    let v = c.loop-b.invariant in
    all_read _ _ _ c.loop-b-test.false (v.1 (omega (arith, c.if-word-eq0.false, c.loop-b-test.false))) v.0 ∙ v.2
