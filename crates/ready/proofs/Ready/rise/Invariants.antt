-- `ready::Ready::rise` meets its contract.
use Prim.Native.Nat.{◌+◌, ◌≤◌}
use Rattle.event.specs.Events.{earlier}
use Rattle.event.specs.Blank.{blank}
use Rattle.ready.specs.Levels.{levels, Climbing}
use Rattle.ready.proofs.Ready.rise.Given as goal

-- what is counted, and what is left from place i on, is the whole way
abbrev pub invariant-loop-place : goal.invariant-loop-place
invariant-loop-place l = (l.rise + l.place ≤ l.self.len) × Climbing earlier blank l.self.items l.place l.event l.rise (levels earlier blank l.self.len l.self.items l.self.len l.event)

abbrev pub decreases-loop-place : goal.decreases-loop-place
decreases-loop-place l = l.place
