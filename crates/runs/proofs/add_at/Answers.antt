-- `runs::add_at` meets its contract. Assumes nothing.
use Prim.Native.Nat.{◌-◌, ◌+◌, min}
use mathlib.Core.Path.{◌≡◌}
use native.Mathlib.Omega.{arith}
use lib.ListN.{length, drop, length-drop}
use Rattle.floats.specs.Arithmetic.{◌+ˢ◌}
use Rattle.runs.proofs.Rows.{add_there, add_past}
use borrow.Author.Rules.{rules}
use Rattle.runs.proofs.add_at.Goals as goal

pub returns-then-s-n : goal.returns-then-s-n
returns-then-s-n c =
    let s = c.args.s in
    let run = c.args.run.now in
    let l = c.args.channel.now in
    let k = c.min.result in
    let h : s + k - s ≡ min (length run) (length (drop s l)) = simp length-drop (omega (arith, c.min.ensures)) in
    let e = c.each_along.ensures (λ a y. a +ˢ y) (λ a y x p. search rules) in
    rw e (add_there s (s + k - s) run l h)

pub returns-else-s-n : goal.returns-else-s-n
returns-else-s-n c = add_past c.args.s c.args.run.now c.args.channel.now c.if-s-n.false
