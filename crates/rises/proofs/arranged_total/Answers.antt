use Rattle.std.proofs.Common.{sym, ◌∙◌, arith}
use Rattle.rises.proofs.Sizes.{size_most, arranged-refused, arranged_given}
use Rattle.rises.proofs.Arranging.{none_done, one_done, rise_fits, all_done}
use Rattle.rises.proofs.arranged_total.Goals as goal

pub returns-then-not-is_size : goal.returns-then-not-is_size
returns-then-not-is_size c = arranged-refused _ (sym c.is_size.ensures ∙ c.if-not-is_size.true)

pub loop-k-init : goal.loop-k-init
loop-k-init c = none_done _ _ c.new-made.ensures

pub overflow_add-total : goal.overflow_add-total
overflow_add-total c =
    let most = size_most _ (sym c.is_size.ensures ∙ c.if-not-is_size.false) in
    let few = c.loop-k.invariant.few in
    record { fits = omega (arith, few, rise_fits _ _ _ c.push_record-pushed.ensures, c.loop-k-test.true, most) }

pub loop-k-preserved : goal.loop-k-preserved
loop-k-preserved c = one_done _ _ _ _ _ _ c.loop-k-test.true c.kth_push.ensures c.push_record-pushed.ensures c.loop-k.invariant

pub returns : goal.returns
returns c =
    arranged_given _ (sym c.is_size.ensures ∙ c.if-not-is_size.false) _ (all_done _ _ _ _ c.loop-k-test.false c.loop-k.invariant)
