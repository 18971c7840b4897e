-- `runs::fade` meets its contract. Assumes nothing.
use Prim.Native.Nat.{◌-◌, min}
use native.Mathlib.Omega.{arith}
use mathlib.Core.Path.{◌≡◌, sym, ap, ◌∙◌}
use mathlib.Core.List.{List, ◌++◌}
use lib.Ieee.{Float}
use lib.ListN.{length, take, drop, length-drop, take-append-drop}
use Rattle.ledger.specs.BlockSamples.{faded_all, faded}
use Rattle.runs.proofs.Walks.{front_cut}
use Rattle.runs.proofs.fade.Goals as goal

pub returns-then-from-end : goal.returns-then-from-end
unfolding faded
returns-then-from-end c =
    let a = c.args in
    let l = a.s.now in
    let m = c.min-end.result in
    let h : m - a.from ≡ min (a.to - a.from) (length (drop a.from l)) = simp length-drop (omega (arith, c.min-end.ensures)) in
    rw c.fade_all.ensures
    (ap (λ (r : List Float). take a.from l ++ r) (front_cut (faded_all a.ease a.rising a.phase a.step) (a.to - a.from) (m - a.from) (drop a.from l) h))

pub returns-else-from-end : goal.returns-else-from-end
unfolding faded faded_all
returns-else-from-end c =
    let a = c.args in
    let l = a.s.now in
    let h : 0 ≡ min (a.to - a.from) (length (drop a.from l)) = simp length-drop (omega (arith, c.min-end.ensures)) in
    sym (take-append-drop a.from l)
    ∙ ap (λ (r : List Float). take a.from l ++ r) (front_cut (faded_all a.ease a.rising a.phase a.step) (a.to - a.from) 0 (drop a.from l) h)
