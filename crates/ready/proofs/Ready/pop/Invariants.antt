use Prim.Native.Nat.{◌≤◌, ◌<◌, ◌-◌}
use Rattle.event.specs.Events.{earlier}
use Rattle.event.specs.Blank.{blank}
use Rattle.ready.specs.Sift.{rise, sink}
use Rattle.ready.specs.Rounds.{Sinking, Rising}
use Rattle.ready.proofs.Ready.pop.Given as goal

-- the free place goes down: from place i on the definition gives its result
abbrev pub invariant-loop-i : goal.invariant-loop-i
invariant-loop-i l = (l.i ≤ l.m) × (l.m < 256) × Sinking earlier blank l.self.items l.m l.i l.last (sink earlier blank l.m l.initial.self.items l.m 0 l.last)

abbrev pub decreases-loop-i : goal.decreases-loop-i
decreases-loop-i l = l.m - l.i

-- the last rises from where that ended
abbrev pub invariant-loop-i-2 : goal.invariant-loop-i-2
invariant-loop-i-2 l = (l.i ≤ l.initial.i) × (l.initial.i < 256) × Rising earlier blank l.self.items l.i l.last (rise earlier blank l.initial.i l.initial.self.items l.initial.i l.last)

abbrev pub decreases-loop-i-2 : goal.decreases-loop-i-2
decreases-loop-i-2 l = l.i
