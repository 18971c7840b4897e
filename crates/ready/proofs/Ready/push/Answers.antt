use borrow.Author.Rules.{rules}
use borrow.Author.Tests.{lt-ltb, le-ltb}
use native.Mathlib.Omega.{arith}
use Prim.Native.Nat.{◌+◌}
use mathlib.Core.Path.{refl, sym, ap, ◌∙◌}
use mathlib.Core.List.{List}
use Rattle.event.specs.declared.Event.{Event}
use Rattle.event.specs.Events.{earlier}
use Rattle.event.specs.Blank.{blank}
use Rattle.ready.specs.Waiting.{pushed}
use Rattle.ready.proofs.Rounds.{rising_on, risen_root, risen_stop}
use Rattle.ready.proofs.Ready.push.Goals as goal
use Rattle.ready.proofs.Ready.push.Goals.{else-loop-i-test, then-loop-i-test+then-not-precedes}

pub returns-then-n-ge256 : goal.returns-then-n-ge256
unfolding pushed
returns-then-n-ge256 c = rw (le-ltb _ _ c.if-n-ge256.true)

pub loop-i-init : goal.loop-i-init
loop-i-init c = (search rules, record { fuel = c.args.self.len; enough = omega arith; gives = refl })

pub loop-i-preserved : goal.loop-i-preserved
loop-i-preserved c = (omega arith, rising_on earlier blank _ _ _ _ c.loop-i-test.true (sym c.precedes.ensures ∙ c.if-not-precedes.false) c.loop-i.invariant.1)

pub returns : goal.returns
unfolding pushed
returns c =
    let n = c.args.self.len in
    rw (lt-ltb n 256 c.if-n-ge256.false)
    (ap (λ (l : List Event). record { items = l; len = n + 1 })
    (elim c.loop-i-test.branch [
      | else-loop-i-test w ↦ risen_root earlier blank _ _ _ _ w.loop-i-test.false c.loop-i.invariant.1
      | then-loop-i-test+then-not-precedes w ↦ risen_stop earlier blank _ _ _ _ (sym w.precedes.ensures ∙ w.if-not-precedes.true) c.loop-i.invariant.1
    ]))
