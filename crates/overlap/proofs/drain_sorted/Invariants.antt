-- The loop's invariant is `Draining`.
use Rattle.std.proofs.Common.{◌≡◌, length}
use Rattle.overlap.proofs.Draining.{Draining}
use Rattle.overlap.proofs.drain_sorted.Given as goal

abbrev pub invariant-loop-k : goal.invariant-loop-k
invariant-loop-k l =
    (length l.keys ≡ length l.initial.keys) × (length l.out ≡ length l.initial.out) × Draining l.initial.keys l.count l.initial.out l.k l.keys l.out
