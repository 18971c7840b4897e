-- `desk_trail::lines::list_samples` is safe and ends: each channel's line is within the text. Assumes nothing.
use Rattle.std.proofs.Common.{◌≡◌, length, rules}
use Rattle.desk_trail.proofs.lines.list_samples.Given as goal

abbrev pub invariant-loop : goal.invariant-loop
invariant-loop g l = length l.text ≡ 576
