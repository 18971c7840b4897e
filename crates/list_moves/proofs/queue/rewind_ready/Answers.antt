-- `list_moves::queue::rewind_ready` meets its contract.
use Rattle.std.proofs.Common.{arith}
use Rattle.sequencer.specs.Turns.{rewinding_start, rewound-all}
use Rattle.memory.specs.Memory.{cells_of}
use Rattle.list_moves.proofs.Requeuing.{count_waits, rewinds_on, rewound-is}
use Rattle.list_moves.proofs.queue.rewind_ready.Goals as goal

pub loop-k-init : goal.loop-k-init
loop-k-init c =
    let a = c.args in
    (count_waits (cells_of a.times.now a.levels.now a.marks.now a.numbers.now) _ c.min-n.ensures, c.sized.ensures, rewinding_start)

pub loop-k-preserved : goal.loop-k-preserved
loop-k-preserved c =
    let l = c.loop-k in
    let a = c.args in
    let here = cells_of a.times.now l.levels l.marks a.numbers.now in
    let r = rewinds_on _ _ l.k here l.invariant.1 _ _ (omega (arith, l.invariant.0)) c.loop-k-test.true c.event_at-event.ensures c.reset.ensures l.invariant.2 _ c.put_unit.ensures in
    (l.invariant.0, r.0, r.1)

pub returns : goal.returns
returns c =
    let l = c.loop-k in
    rewound-is _ l.invariant.0 (rewound-all c.loop-k-test.false l.invariant.2)
