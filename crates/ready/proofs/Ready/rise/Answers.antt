-- `ready::Ready::rise` meets its contract.
use borrow.Author.Tests.{lt-ltb, le-ltb}
use native.Mathlib.Omega.{arith}
use mathlib.Core.Path.{sym, ◌∙◌}
use Rattle.event.specs.Events.{earlier}
use Rattle.event.specs.Blank.{blank}
use Rattle.ready.specs.Levels.{climbing_on, climbed_root, climbed_stop}
use Rattle.ready.proofs.Ready.rise.Goals as goal

pub returns-then-self-ge256 : goal.returns-then-self-ge256
returns-then-self-ge256 c = rw (le-ltb _ _ c.if-self-ge256.true)

pub loop-place-init : goal.loop-place-init
loop-place-init c = (omega arith, record { fuel = c.args.self.len; enough = omega arith; gives = omega arith })

pub loop-place-preserved : goal.loop-place-preserved
loop-place-preserved c =
    let more = c.loop-place-test.true in
    let l = c.loop-place in
    (omega (arith, more, l.invariant.0), climbing_on earlier blank more (sym c.precedes.ensures ∙ c.if-not-precedes.false) l.invariant.1)

pub returns-after-loop-place : goal.returns-after-loop-place
returns-after-loop-place c = rw (lt-ltb c.args.self.len 256 c.if-self-ge256.false) (climbed_root earlier blank c.loop-place-test.false c.loop-place.invariant.1)

pub returns-then-not-precedes : goal.returns-then-not-precedes
returns-then-not-precedes c =
    let l = c.loop-place in
    let late = sym c.precedes.ensures ∙ c.if-not-precedes.true in
    rw (lt-ltb c.args.self.len 256 c.if-self-ge256.false) (climbed_stop earlier blank late l.invariant.1)
