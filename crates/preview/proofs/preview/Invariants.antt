-- `preview::preview` meets its contract: the loop walks the run (`runs.specs.Turns`). Assumes nothing.
use Prim.Native.Nat.{◌+◌}
use Rattle.floats.specs.Arithmetic.{◌×ˢ◌}
use Rattle.preview.specs.Preview.{gain_at}
use Rattle.runs.specs.Turns.{Turns}
use Rattle.preview.proofs.preview.Given as goal

abbrev pub invariant-loop-i : goal.invariant-loop-i
invariant-loop-i l = Turns (λ j a. a ×ˢ gain_at l.gains l.rising j) (λ j. j + 1) l.first l.initial.run l.i (l.first + l.i) l.run
