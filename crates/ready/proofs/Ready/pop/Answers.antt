use borrow.Author.Rules.{rules}
use borrow.Author.Tests.{lt-ltb, le-leb, lt-leb}
use native.Mathlib.Omega.{arith}
use Prim.Native.Nat.{◌<◌, ◌-◌}
use mathlib.Core.Bool.{and-false}
use mathlib.Core.Path.{◌≡◌, refl, sym, ap, ◌∙◌}
use mathlib.Core.List.{List}
use Rattle.event.specs.declared.Event.{Event}
use Rattle.event.specs.Events.{earlier}
use Rattle.event.specs.Blank.{blank}
use Rattle.ready.specs.Sift.{child}
use Rattle.ready.proofs.Steps.{child_left, child_first, child_second}
use Rattle.ready.specs.Waiting.{popped}
use Rattle.ready.proofs.Rounds.{sinking_on, sunk, rising_on, risen_root, risen_stop}
use Rattle.ready.proofs.Ready.pop.Goals as goal
use Rattle.ready.proofs.Ready.pop.Goals.{Joined-r-m, then-r-m+then-precedes, then-r-m+else-precedes, else-r-m, then-self-eq0-via-then-self-eq0, then-self-eq0-via-else-self-eq0+then-self-gt256, else-loop-i-2-test, then-loop-i-2-test+then-not-precedes}

-- the child that the code takes is that of the definition
at-child : (c : Joined-r-m) → child earlier blank c.loop-i.self.items (c.args.self.len - 1) c.loop-i.i ≡ c.if-r-m.c
at-child c = elim c.if-r-m.branch [
  | then-r-m+then-precedes w ↦ child_second earlier blank _ _ _ w.if-r-m.true (sym w.precedes.ensures ∙ w.if-precedes.true) ∙ sym w.c-is
  | then-r-m+else-precedes w ↦ child_first earlier blank _ _ _ (sym w.precedes.ensures ∙ w.if-precedes.false) ∙ sym w.c-is
  | else-r-m w ↦ child_left earlier blank _ _ _ w.if-r-m.false ∙ sym w.c-is
]

above : (c : Joined-r-m) → c.loop-i.i < c.if-r-m.c
above c = elim c.if-r-m.branch [
  | then-r-m+then-precedes w ↦ omega (arith, w.c-is)
  | then-r-m+else-precedes w ↦ omega (arith, w.c-is)
  | else-r-m w ↦ omega (arith, w.c-is)
]

below : (c : Joined-r-m) → c.if-r-m.c < c.args.self.len - 1
below c = elim c.if-r-m.branch [
  | then-r-m+then-precedes w ↦ omega (arith, w.c-is, w.if-r-m.true)
  | then-r-m+else-precedes w ↦ omega (arith, w.c-is, c.loop-i-test.true)
  | else-r-m w ↦ omega (arith, w.c-is, c.loop-i-test.true)
]

pub returns-then-self-eq0 : goal.returns-then-self-eq0
unfolding popped
returns-then-self-eq0 c = elim c.then-self-eq0.branch [
  | then-self-eq0-via-then-self-eq0 w ↦ rw w.if-self-eq0.true
  | then-self-eq0-via-else-self-eq0+then-self-gt256 w ↦ rw (lt-leb _ _ w.if-self-gt256.true, and-false)
]

pub loop-i-init : goal.loop-i-init
loop-i-init c = (omega arith, omega arith, record { fuel = c.args.self.len - 1; enough = omega arith; gives = refl })

pub offset_bounds-self-c : goal.offset_bounds-self-c
offset_bounds-self-c c = let h = below c.before.before in search rules

pub bounds-self-c : goal.bounds-self-c
bounds-self-c c = let h = below c.before.before in search rules

pub loop-i-smaller : goal.loop-i-smaller
loop-i-smaller c = let h = below c.before.before in let k = above c.before.before in omega arith

pub loop-i-preserved : goal.loop-i-preserved
loop-i-preserved c =
    let d = c.before.before in
    let h = below d in
    (omega arith, omega arith, sinking_on earlier blank _ _ _ _ _ _ _ d.loop-i-test.true (at-child d) refl d.loop-i.invariant.2)

pub loop-i-2-init : goal.loop-i-2-init
loop-i-2-init c =
    let l = c.loop-i in
    (omega arith, omega (arith, l.invariant.0, l.invariant.1), record { fuel = l.i; enough = omega arith; gives = refl })

pub loop-i-2-preserved : goal.loop-i-2-preserved
loop-i-2-preserved c =
    let d = c.before.before.before in
    let v = d.loop-i-2.invariant in
    (omega (arith, v.0), v.1, rising_on earlier blank _ _ _ _ d.loop-i-2-test.true (sym c.precedes-in-loop-i-2.ensures ∙ c.if-not-precedes.false) v.2)

pub returns : goal.returns
unfolding popped
returns c =
    let r = c.loop-i-2.invariant.2 in
    let n = c.args.self.len in
    let h : 0 < n = omega (arith, c.if-self-eq0.false) in
    rw (lt-ltb 0 n h, le-leb n 256 c.if-self-gt256.false)
    (ap (λ (l : List Event). record { items = l; len = n - 1 })
    ((elim c.loop-i-2-test.branch [
      | else-loop-i-2-test w ↦ risen_root earlier blank _ _ _ _ w.loop-i-2-test.false r
      | then-loop-i-2-test+then-not-precedes w ↦ risen_stop earlier blank _ _ _ _ (sym w.precedes-in-loop-i-2.ensures ∙ w.if-not-precedes.true) r
    ])
    ∙ sunk earlier blank _ _ _ _ _ c.loop-i-test.false c.loop-i.invariant.2))
