use Rattle.peak.specs.Steps.{state}
use Rattle.peak.proofs.Rows.{Feeding}
use Rattle.peak.proofs.RunningPeak.feed_run.Given as goal

abbrev pub invariant-loop-sample : goal.invariant-loop-sample
invariant-loop-sample l = Feeding (state l.initial.p l.initial.row) l.samples l.sample-index (state l.p l.row)
