-- `runs::each_on_clip` meets its contract. Assumes nothing.
use borrow.Author.Rules.{rules, of_calls}
use mathlib.Core.Path.{◌≡◌, ap, ◌∙◌}
use mathlib.Core.List.{List}
use Prim.Native.Nat.{◌+◌, ◌-◌, ◌≤◌}
use native.Mathlib.Omega.{arith}
use lib.Ieee.{Float, of_bits}
use lib.ListN.{length, take, drop, length-drop}
use lib.Seq.{take_all}
use Rattle.floats.specs.Arithmetic.{zeroᶠ}
use Rattle.runs.specs.declared.ClipPart.{ClipPart}
use Rattle.runs.specs.Walk.{zipped}
use Rattle.runs.proofs.Walks.{drop-cut}
use Rattle.runs.proofs.Adds.{then_level}
use Rattle.runs.proofs.each_on_clip.Goals as goal

pub returns-clause-samples : goal.returns-clause-samples
unfolding of_bits
returns-clause-samples g c = λ h p.
    let a = c.args in
    let l = a.s.now in
    let pool = a.pool.now in
    let q = c.clip_part-part.result in
    let has = ap (λ (q : ClipPart). q.has) c.clip_part-part.ensures in
    let from = ap (λ (q : ClipPart). q.from) c.clip_part-part.ensures in
    let one = c.each_along.ensures h (λ a y x e. p a y x e) in
    let two = c.each.ensures (λ a. h a zeroᶠ) (λ a x e. p a zeroᶠ x (search (rules, of_calls))) in
    let t : take (length pool - q.from) (drop q.from pool) ≡ drop q.from pool = take_all _ _ (omega (arith, length-drop q.from pool)) in
    let i : q.has ≤ length l = omega (arith, has) in
    let j : q.has ≤ length (drop q.from pool) = simp length-drop (omega (arith, has, from)) in
    let d = drop-cut (a.offset + a.place) q.from pool from in
    rw (two, one, t) (then_level h zeroᶠ q.has (drop q.from pool) l i j ∙ ap (λ (r : List Float). zipped h r l) (rw (d, has)))
