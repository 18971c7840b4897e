use Rattle.std.proofs.Common.{sym, ◌∙◌, arith}
use Rattle.rises.proofs.Sizes.{size_most, lay_refused}
use Rattle.rises.proofs.Laying.{creation-laid, push-laid, same-long, all_laid, too_short}
use Rattle.rises.proofs.lay.Goals as goal

pub returns-then-not-is_size : goal.returns-then-not-is_size
returns-then-not-is_size c = let r = lay_refused _ (sym c.is_size.ensures ∙ c.if-not-is_size.true) _ in record { answer = r.0; lent = r.1 }

pub overflow_mul-n : goal.overflow_mul-n
overflow_mul-n c = let most = size_most _ (sym c.is_size.ensures ∙ c.if-not-is_size.false) in record { fits = omega (arith, most) }

pub overflow_add-n : goal.overflow_add-n
overflow_add-n c = let most = size_most _ (sym c.is_size.ensures ∙ c.if-not-is_size.false) in record { fits = omega (arith, most) }

pub returns-then-buf-n : goal.returns-then-buf-n
returns-then-buf-n c =
    let r = too_short _ _ c.if-buf-n.true (sym c.is_size.ensures ∙ c.if-not-is_size.false) in record { answer = r.0; lent = r.1 }

pub loop-k-init : goal.loop-k-init
loop-k-init c = creation-laid _ _ c.if-buf-n.false _ c.arguments_of.ensures _ c.write.ensures.lent

pub overflow_add-at : goal.overflow_add-at
overflow_add-at c =
    let most = size_most _ (sym c.is_size.ensures ∙ c.if-not-is_size.false) in
    record { fits = omega (arith, c.loop-k.invariant.free, c.loop-k-test.true, most) }

pub loop-k-preserved : goal.loop-k-preserved
loop-k-preserved c =
    push-laid _ _ c.if-buf-n.false _ c.arguments_of.ensures _ c.write.ensures.lent c.loop-k.invariant c.loop-k-test.true _ c.kth_push.ensures
    _ c.arguments_of-in-loop-k.ensures _ c.write-in-loop-k.ensures.lent

pub shape_of-buf : goal.shape_of-buf
shape_of-buf c = same-long _ _ c.if-buf-n.false _ c.arguments_of.ensures _ c.write.ensures.lent c.loop-k.invariant

pub returns : goal.returns
returns c =
    let r = all_laid _ _ c.if-buf-n.false _ c.arguments_of.ensures _ c.write.ensures.lent c.loop-k.invariant
    c.loop-k-test.false (sym c.is_size.ensures ∙ c.if-not-is_size.false) in
    record { answer = r.0; lent = r.1 }
