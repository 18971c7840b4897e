-- `record_output::put_channels` meets its contract. Assumes nothing.
use mathlib.Core.Path.{◌≡◌, ap, subst}
use Prim.Native.Nat.{ℕ, ◌+◌, ◌-◌, ◌<◌, ◌≤◌}
use native.Mathlib.Omega.{arith}
use borrow.Author.Rules.{rules}
use lib.ListN.{replicate}
use Rattle.listing.specs.Pieces.{text, add_all}
use Rattle.record_output.specs.Lines.{row_piece}
use Rattle.record_output.proofs.Listed.{Adding, turn, finish}
use Rattle.record_output.proofs.put_channels.Goals as goal

pub loop-init : goal.loop-init
loop-init c =
    let a = c.args in
    let z : a.channels - 0 ≡ a.channels = omega arith in
    ap (λ (k : ℕ). add_all (replicate k (row_piece a.form a.row.now)) (text a.out.now a.at)) z

pub loop-preserved : goal.loop-preserved
loop-preserved c =
    let a = c.args in
    let piece = row_piece a.form a.row.now in
    let left = a.channels - c.loop.counter in
    let some : 0 < left = let t = c.loop-test.true in omega arith in
    let z : left - 1 ≡ a.channels - (c.loop.counter + 1) = omega arith in
    subst (λ (k : ℕ). Adding piece a.channels a.out.now a.at c.put_row-to.new.out c.put_row-to.result k) z
    (turn piece a.channels a.out.now a.at c.loop.out c.loop.to left c.loop.invariant some c.put_row-to.ensures)

pub returns : goal.returns
returns c =
    let a = c.args in
    let none : a.channels - c.loop.counter ≤ 0 = let t = c.loop-test.false in omega arith in
    finish (row_piece a.form a.row.now) a.channels a.out.now a.at c.loop.out c.loop.to (a.channels - c.loop.counter) c.loop.invariant none
