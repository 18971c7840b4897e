-- `list_moves::active::active_to_past` meets its contract.
use Rattle.std.proofs.Common.{sym, refl, ◌∙◌, arith}
use Rattle.sequencer.specs.Turns.{finished_end}
use Rattle.memory.specs.Memory.{cells_of, engine_of}
use Rattle.memory.specs.Laws.{counts_are}
use Rattle.list_moves.proofs.Sweeping.{sweep-starts, sweeps_on, sweeps_off, sweep-beyond, kept_len}
use Rattle.list_moves.proofs.active.active_to_past.Goals as goal

pub returns-then-n-gt-ROOM : goal.returns-then-n-gt-ROOM
returns-then-n-gt-ROOM c =
    let a = c.args in
    sweep-beyond (cells_of a.times.now a.levels.now a.marks.now a.numbers.now) _ _ refl c.if-n-gt-ROOM.true

pub loop-i-init : goal.loop-i-init
loop-i-init c =
    let a = c.args in
    let c₀ = cells_of a.times.now a.levels.now a.marks.now a.numbers.now in
    (c.if-n-gt-ROOM.false, (counts_are c₀).1, sweep-starts c₀ _)

pub keep-requires : goal.keep-requires
keep-requires c = let l = c.loop-i.invariant.0 in let t = c.loop-i-test.true in omega arith

pub fill-requires : goal.fill-requires
fill-requires c =
    let l = c.loop-i in
    (c.loop-i-test.true, l.invariant.0, l.invariant.1 ∙ sym (kept_len (engine_of (cells_of l.times l.levels l.marks l.numbers)) _ _ c.keep.ensures.room c.keep.ensures.full))

pub loop-i-preserved-then-times-i : goal.loop-i-preserved-then-times-i
loop-i-preserved-then-times-i c =
    let l = c.loop-i in
    let here = cells_of l.times l.levels l.marks l.numbers in
    let r = sweeps_off here _ l.i l.n _ c.loop-i-test.true l.invariant.0 l.invariant.1 l.invariant.2 _ _ c.keep.ensures.room c.keep.ensures.full c.fill.ensures c.if-times-i.true in
    (omega (arith, l.invariant.0), r.0, r.1)

pub loop-i-preserved : goal.loop-i-preserved
loop-i-preserved c =
    let l = c.loop-i in
    let here = cells_of l.times l.levels l.marks l.numbers in
    (l.invariant.0, l.invariant.1, sweeps_on here _ l.i l.n _ c.loop-i-test.true l.invariant.0 l.invariant.1 l.invariant.2 c.if-times-i.false)

pub returns : goal.returns
returns c =
    let l = c.loop-i in
    finished_end _ _ _ _ (omega (arith, l.invariant.1, c.loop-i-test.false)) l.invariant.2
