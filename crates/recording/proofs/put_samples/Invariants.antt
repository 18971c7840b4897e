-- The samples from i on are still to be put.
use Rattle.std.proofs.Common.{◌≡◌, ◌+◌, ◌-◌}
use lib.Seq.{sets}
use Rattle.recording.specs.Samples.{samples_from}
use Rattle.recording.proofs.put_samples.Given as goal

abbrev pub invariant-loop-i : goal.invariant-loop-i
invariant-loop-i l = sets l.out (l.at + l.i) (samples_from l.bytes (l.n - l.i) l.i) ≡ sets l.initial.out l.at (samples_from l.bytes l.n 0)
