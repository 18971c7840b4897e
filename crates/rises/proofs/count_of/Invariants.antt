use Rattle.std.proofs.Common.{◌≡◌, ◌<◌, ◌≤◌, drop}
use Rattle.rises.specs.Words.{decimal, in_range, count_of}
use Rattle.rises.proofs.count_of.Given as goal

abbrev pub invariant-loop-b : goal.invariant-loop-b
invariant-loop-b l = (l.value ≤ 256) × (0 < l.b-index → 0 < l.value) × (in_range (decimal l.value (drop l.b-index l.word)) ≡ count_of l.word)
