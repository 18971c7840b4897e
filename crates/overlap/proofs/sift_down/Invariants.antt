-- The loop keeps what the definition gives from place i on.
use Rattle.std.proofs.Common.{◌≡◌, ◌-◌, ◌≤◌, ◌<◌, length}
use Rattle.ready.specs.Sift.{sink}
use Rattle.ready.specs.Rounds.{Sinking}
use Rattle.overlap.specs.Keys.{key_less, no_key}
use Rattle.overlap.proofs.sift_down.Given as goal

abbrev pub invariant-loop-i : goal.invariant-loop-i
invariant-loop-i l =
    (l.i ≤ l.m) × (l.m < length l.keys) × (length l.keys ≡ length l.initial.keys)
    × Sinking key_less no_key l.keys l.m l.i l.key (sink key_less no_key l.m l.initial.keys l.m 0 l.key)

abbrev pub decreases-loop-i : goal.decreases-loop-i
decreases-loop-i l = l.m - l.i
