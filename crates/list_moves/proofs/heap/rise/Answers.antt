-- `list_moves::heap::rise` meets its contract.
use Rattle.std.proofs.Common.{sym, refl, ap, ◌∙◌, arith}
use Rattle.event.specs.Events.{earlier}
use Rattle.event.specs.Blank.{blank}
use Rattle.ready.specs.Sift.{parent}
use Rattle.memory.specs.Memory.{cells_of}
use Rattle.memory.specs.Laws.{waits-read}
use Rattle.list_moves.proofs.Rising.{rises_in, rises_on, rises_root, rises_stop}
use Rattle.list_moves.proofs.heap.rise.Goals as goal
use Rattle.list_moves.proofs.heap.rise.Goals.{else-loop-i-test, then-loop-i-test+then-not-precedes}

pub loop-i-init : goal.loop-i-init
loop-i-init c = rises_in _ _ _ _ c.sized.ensures refl c.requires

pub loop-i-preserved : goal.loop-i-preserved
loop-i-preserved c =
    let l = c.loop-i in
    let here = cells_of l.times l.levels l.marks l.numbers in
    let found = c.event_at-parent.ensures ∙ waits-read here (parent l.i) blank (omega (arith, l.invariant.3)) in
    let soon = ap (earlier c.args.event) (sym found) ∙ sym c.precedes.ensures ∙ c.if-not-precedes.false in
    rises_on _ _ _ _ _ here l.invariant _ c.copy_slot.ensures c.loop-i-test.true soon

pub returns : goal.returns
returns c =
    let l = c.loop-i in
    let here = cells_of l.times l.levels l.marks l.numbers in
    elim c.loop-i-test.branch [
      | else-loop-i-test w ↦ let r = rises_root _ _ _ _ _ here l.invariant _ c.put_event.ensures w.loop-i-test.false in record { engine = r.0; passed = r.1 }
      | then-loop-i-test+then-not-precedes w ↦
          let soon = ap (earlier c.args.event) (sym (w.event_at-parent.ensures ∙ waits-read here (parent l.i) blank (omega (arith, l.invariant.3)))) ∙ sym w.precedes.ensures ∙ w.if-not-precedes.true in
          let r = rises_stop _ _ _ _ _ here l.invariant _ c.put_event.ensures w.loop-i-test.true soon in record { engine = r.0; passed = r.1 }
    ]
