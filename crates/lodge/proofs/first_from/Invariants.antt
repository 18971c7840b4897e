use Rattle.std.proofs.Common.{◌≡◌, drop}
use Rattle.lodge.specs.Search.{first_from}
use Rattle.lodge.proofs.first_from.Given as goal

abbrev pub invariant-loop-w : goal.invariant-loop-w
invariant-loop-w l = first_from l.from l.length (drop l.w-index l.windows) ≡ first_from l.from l.length l.windows
