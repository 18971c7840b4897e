-- `list_moves::heap::pop` meets its contract.
use Rattle.std.proofs.Common.{refl, ◌∙◌, arith, rules}
use Rattle.sequencer.specs.Rounds.{sinking_in}
use Rattle.memory.specs.Memory.{cells_of, engine_of}
use Rattle.list_moves.proofs.Rising.{last-is, sinks_on, pops, none-pops, beyond-pops}
use Rattle.list_moves.proofs.heap.pop.Goals as goal
use Rattle.list_moves.proofs.heap.pop.Goals.{then-n-eq0-via-then-n-eq0, then-n-eq0-via-else-n-eq0+then-n-gt-ROOM}

pub returns-then-n-eq0 : goal.returns-then-n-eq0
returns-then-n-eq0 c =
    let a = c.args in
    let here = cells_of a.times.now a.levels.now a.marks.now a.numbers.now in
    elim c.then-n-eq0.branch [
      | then-n-eq0-via-then-n-eq0 w ↦ none-pops here _ refl w.if-n-eq0.true
      | then-n-eq0-via-else-n-eq0+then-n-gt-ROOM w ↦ beyond-pops here _ refl w.if-n-gt-ROOM.true
    ]

pub loop-i-init : goal.loop-i-init
loop-i-init c =
    let a = c.args in
    let c₀ = cells_of a.times.now a.levels.now a.marks.now a.numbers.now in
    let r = last-is c₀ _ refl (search rules) c.if-n-gt-ROOM.false in
    (c.sized.ensures, sinking_in, r.0, c.event_at-last.ensures ∙ r.1, search rules, search rules, r.2, r.3)

pub child-c-requires : goal.child-c-requires
child-c-requires c = (c.loop-i-test.true, c.loop-i.invariant.4)

pub loop-i-smaller : goal.loop-i-smaller
loop-i-smaller c = let r = c.child-c.ensures in omega (arith, r.1, r.2)

pub loop-i-preserved : goal.loop-i-preserved
loop-i-preserved c =
    let l = c.loop-i in
    let v = l.invariant in
    let r = c.child-c.ensures in
    let t = sinks_on _ (cells_of l.times l.levels l.marks l.numbers) v.0 l.i _ _ v.2 v.4 c.loop-i-test.true r.0 r.2 v.1 _ c.copy_slot.ensures in
    (t.0, t.1, v.2, v.3, v.4, omega (arith, r.2), v.6, v.7)

pub rise-requires : goal.rise-requires
rise-requires c = let v = c.loop-i.invariant in omega (arith, v.4, v.5)

pub returns : goal.returns
returns c =
    let a = c.args in
    let c₀ = cells_of a.times.now a.levels.now a.marks.now a.numbers.now in
    let l = c.loop-i in
    let v = l.invariant in
    pops (engine_of c₀) (cells_of l.times l.levels l.marks l.numbers) _ l.i _ _ c.sized-2.ensures v.2 v.3 v.6 v.7 c.loop-i-test.false v.1 c.rise.ensures.engine
