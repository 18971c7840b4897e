use Rattle.std.proofs.Common.{◌+◌, refl, sym, ap, ◌∙◌, arith}
use Rattle.rises.specs.Totals.{bound}
use Rattle.rises.proofs.Way.{log2_only, log2_small}
use Rattle.rises.proofs.Bounded.{bound-next}
use Rattle.rises.proofs.Sizes.{size_most, greatest-refused, greatest_given}
use Rattle.rises.proofs.greatest_total.Goals as goal

pub returns-then-not-is_size : goal.returns-then-not-is_size
returns-then-not-is_size c = greatest-refused _ (sym c.is_size.ensures ∙ c.if-not-is_size.true)

pub loop-k-init : goal.loop-k-init
unfolding bound
loop-k-init c = (refl, omega arith)

pub overflow_add-total : goal.overflow_add-total
overflow_add-total c =
    let k = c.loop-k.k in
    let r = log2_only (k + 1) _ (omega arith) c.ilog2.ensures.power_le c.ilog2.ensures.next_power_gt in
    let most = size_most _ (sym c.is_size.ensures ∙ c.if-not-is_size.false) in
    record { fits = omega (arith, r, log2_small (k + 1), c.loop-k.invariant.1, c.loop-k-test.true, most) }

pub loop-k-preserved : goal.loop-k-preserved
loop-k-preserved c =
    let i = c.loop-k.invariant in
    let k = c.loop-k.k in
    let r = log2_only (k + 1) _ (omega arith) c.ilog2.ensures.power_le c.ilog2.ensures.next_power_gt in
    let most = size_most _ (sym c.is_size.ensures ∙ c.if-not-is_size.false) in
    (omega (arith, i.0, bound-next k, r), omega (arith, r, log2_small (k + 1), i.1, c.loop-k-test.true, most))

pub returns : goal.returns
returns c =
    greatest_given _ (sym c.is_size.ensures ∙ c.if-not-is_size.false) _
    (c.loop-k.invariant.0 ∙ ap bound (omega (arith, c.loop-k.auto.k-end, c.loop-k-test.false)))
