-- `list_moves::starts::start_due` meets its contract.
use Rattle.std.proofs.Common.{◌-◌, get_or, refl, arith}
use Rattle.memory.specs.Memory.{cells_of, engine_of}
use Rattle.memory.specs.Laws.{counts_are}
use Rattle.list_moves.proofs.Starting.{begins, begin-beyond, begin-none, begin-late, begin_on}
use Rattle.list_moves.proofs.starts.start_due.Goals as goal

pub returns-then-n-gt-ROOM : goal.returns-then-n-gt-ROOM
returns-then-n-gt-ROOM c =
    let a = c.args in
    begin-beyond (cells_of a.times.now a.levels.now a.marks.now a.numbers.now) _ refl c.if-n-gt-ROOM.true

pub loop-init : goal.loop-init
loop-init c =
    let a = c.args in
    let here = cells_of a.times.now a.levels.now a.marks.now a.numbers.now in
    (c.if-n-gt-ROOM.false, omega (arith, (counts_are here).0), begins (engine_of here))

pub returns-then-not-times : goal.returns-then-not-times
returns-then-not-times c =
    let l = c.loop in
    begin-late (cells_of l.times l.levels l.marks l.numbers) _ (get_or c.args.numbers.now 1280 0 - l.counter) l.invariant.1 l.invariant.2 c.if-not-times.true

pub loop-preserved : goal.loop-preserved
loop-preserved c =
    let l = c.loop in
    let v = l.invariant in
    let r = begin_on (cells_of l.times l.levels l.marks l.numbers) _ (get_or c.args.numbers.now 1280 0 - l.counter) v.1 v.2
    (omega (arith, c.loop-test.true)) (omega (arith, v.0)) c.if-not-times.false _ c.start_first.ensures in
    (v.0, omega (arith, r.0), r.1)

pub returns : goal.returns
returns c =
    let l = c.loop in
    begin-none (cells_of l.times l.levels l.marks l.numbers) _ (get_or c.args.numbers.now 1280 0 - l.counter) l.invariant.1 l.invariant.2 (omega (arith, c.loop-test.false))
