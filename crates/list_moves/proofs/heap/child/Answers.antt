-- `list_moves::heap::child` meets its contract.
use Rattle.std.proofs.Common.{◌+◌, ◌*◌, sym, ◌∙◌, ap₂, arith}
use Rattle.event.specs.Events.{earlier}
use Rattle.event.specs.Blank.{blank}
use Rattle.ready.proofs.Steps.{child_left, child_first, child_second}
use Rattle.memory.specs.Memory.{cells_of}
use Rattle.memory.specs.Laws.{waits-read}
use Rattle.list_moves.proofs.heap.child.Goals as goal

pub returns-then-m-i : goal.returns-then-m-i
returns-then-m-i c = (child_left earlier blank _ _ _ c.if-m-i.true, omega arith, omega (arith, c.requires.0))

pub returns-then-precedes : goal.returns-then-precedes
returns-then-precedes c =
    let a = c.args in
    let here = cells_of a.times.now a.levels.now a.marks.now a.numbers.now in
    let p = c.requires in
    let b = c.if-m-i.false in
    let l = c.event_at-left.ensures ∙ waits-read here (2 * a.i + 1) blank (omega (arith, p.0, p.1)) in
    let r = c.event_at-right.ensures ∙ waits-read here (2 * a.i + 2) blank (omega (arith, p.1, b)) in
    (child_second earlier blank _ _ _ b (ap₂ earlier (sym r) (sym l) ∙ sym c.precedes.ensures ∙ c.if-precedes.true), omega arith, b)

pub returns : goal.returns
returns c =
    let a = c.args in
    let here = cells_of a.times.now a.levels.now a.marks.now a.numbers.now in
    let p = c.requires in
    let b = c.if-m-i.false in
    let l = c.event_at-left.ensures ∙ waits-read here (2 * a.i + 1) blank (omega (arith, p.0, p.1)) in
    let r = c.event_at-right.ensures ∙ waits-read here (2 * a.i + 2) blank (omega (arith, p.1, b)) in
    (child_first earlier blank _ _ _ (ap₂ earlier (sym r) (sym l) ∙ sym c.precedes.ensures ∙ c.if-precedes.false), omega arith, p.0)
