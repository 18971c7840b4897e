-- The loop keeps what the definition gives from place i on.
use Rattle.std.proofs.Common.{◌≡◌, ◌≤◌, length}
use Rattle.ready.specs.Sift.{rise}
use Rattle.ready.specs.Rounds.{Rising}
use Rattle.overlap.specs.Keys.{key_less, no_key}
use Rattle.overlap.proofs.sift_up.Given as goal

abbrev pub invariant-loop-i : goal.invariant-loop-i
invariant-loop-i l =
    (l.i ≤ l.n) × (length l.keys ≡ length l.initial.keys) × Rising key_less no_key l.keys l.i l.key (rise key_less no_key l.n l.initial.keys l.n l.key)

abbrev pub decreases-loop-i : goal.decreases-loop-i
decreases-loop-i l = l.i
