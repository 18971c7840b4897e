-- `realseq::queues::Messages::tally` meets its contract. Assumes nothing.
use Rattle.std.proofs.Common.{◌≡◌, ◌+◌, ◌-◌, ◌<◌, ◌≤◌, min, arith}
use Rattle.realseq.specs.Queues.{tally_from, at}
use Rattle.realseq.specs.QueueLaws.{tally_on, tally-none, counted-le, tally-start}
use Rattle.realseq.proofs.queues.Messages.tally.Goals as goal

pub loop-i-init : goal.loop-i-init
loop-i-init c = (omega arith, tally-start _ _)

pub overflow_add-total : goal.overflow_add-total
overflow_add-total c =
    let h : c.counts-total.result ≤ 1 = rw c.counts-total.ensures (counted-le (at c.args.self c.loop-i.i) c.args.kind) in
    omega (arith, h, c.loop-i.invariant.0)

pub loop-i-preserved : goal.loop-i-preserved
loop-i-preserved c =
    let q = c.args.self in
    let k = c.args.kind in
    let m = min q.count 64 in
    let i = c.loop-i.i in
    let h : c.counts-total.result ≤ 1 = rw c.counts-total.ensures (counted-le (at q i) k) in
    let l : i < m = omega (arith, c.loop-i-test.true, c.min-i-end.ensures) in
    let e : tally_from (m - i) i q k ≡ c.counts-total.result + tally_from (m - (i + 1)) (i + 1) q k = rw c.counts-total.ensures (tally_on m i q k l) in
    (omega (arith, h, c.loop-i.invariant.0), omega (arith, e, c.loop-i.invariant.1))

pub returns : goal.returns
returns c =
    let q = c.args.self in
    let m = min q.count 64 in
    let l : m ≤ c.loop-i.i = omega (arith, c.loop-i-test.false, c.min-i-end.ensures) in
    omega (arith, tally-none m c.loop-i.i q c.args.kind l, c.loop-i.invariant.1)
