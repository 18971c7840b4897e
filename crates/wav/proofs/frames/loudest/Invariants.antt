use Rattle.std.proofs.Common.{◌≡◌, max, map, drop}
use Rattle.peak.specs.Peaks.{magnitude, greatest}
use Rattle.wav.proofs.frames.loudest.Given as goal

abbrev pub invariant-loop-sample : goal.invariant-loop-sample
invariant-loop-sample l = max l.most (greatest (map magnitude (drop l.sample-index l.run))) ≡ max l.before (greatest (map magnitude l.run))
