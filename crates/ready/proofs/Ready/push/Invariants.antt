use Prim.Native.Nat.{◌≤◌}
use Rattle.event.specs.Events.{earlier}
use Rattle.event.specs.Blank.{blank}
use Rattle.ready.specs.Sift.{rise}
use Rattle.ready.specs.Rounds.{Rising}
use Rattle.ready.proofs.Ready.push.Given as goal

-- from place i on the event rises to what the definition gives
abbrev pub invariant-loop-i : goal.invariant-loop-i
invariant-loop-i l = (l.i ≤ l.n) × Rising earlier blank l.self.items l.i l.event (rise earlier blank l.n l.initial.self.items l.n l.event)

abbrev pub decreases-loop-i : goal.decreases-loop-i
decreases-loop-i l = l.i
