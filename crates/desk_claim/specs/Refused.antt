-- A refused call of the desk changes nothing, on every desk value, reached or not: the desk comes back as it was, queues and all, and so does what was lent. Assumes nothing.
use Rattle.std.specs.Prelude.{ℕ, ◌≡◌}
use Rattle.std.proofs.Math.Option.{Option, none, some}
use Rattle.desk.specs.Desk as Desk
use Rattle.desk.specs.Desk.{Call, number, queued, done, rendered, refused, Reply, lent_out}
use Rattle.realseq.specs.declared.SequencerBackend.{SequencerBackend}

-- what a refused call gives back
abbrev pub Unchanged : SequencerBackend → Call → SequencerBackend × Reply → Type 0
Unchanged d c r = (r.0 ≡ d) × (r.1.out ≡ lent_out c)

abbrev pub refused_with : Desk.Answer → Option ℕ
refused_with (number k) = none
refused_with queued = none
refused_with done = none
refused_with (rendered c) = none
refused_with (refused k) = some k
