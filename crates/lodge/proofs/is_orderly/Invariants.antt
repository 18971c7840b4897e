use Rattle.std.proofs.Common.{◌≡◌, drop}
use Rattle.lodge.specs.Search.{orderly}
use Rattle.lodge.proofs.is_orderly.Given as goal

abbrev pub invariant-loop-w : goal.invariant-loop-w
invariant-loop-w l = orderly l.last (drop l.w-index l.windows) ≡ orderly 0 l.windows
