-- `list_moves::edits::close_gap` meets its contract.
use Rattle.std.proofs.Common.{ℕ, ◌-◌, refl, ap, arith}
use Rattle.memory.specs.Memory.{cells_of}
use Rattle.list_moves.proofs.Storing.{closing_in, closing_on, closed}
use Rattle.list_moves.proofs.edits.close_gap.Goals as goal

pub loop-j-init : goal.loop-j-init
loop-j-init c = (c.sized.ensures, omega (arith, c.requires.0, c.requires.1), closing_in _ _ _ (omega (arith, c.requires.0)))

pub edit_at-edit-requires : goal.edit_at-edit-requires
edit_at-edit-requires c = let v = c.loop-j.invariant in let t = c.loop-j-test.true in omega (arith, t, v.1)

pub put_edit-requires : goal.put_edit-requires
put_edit-requires c = let v = c.loop-j.invariant in let t = c.loop-j-test.true in omega (arith, t, v.1)

pub loop-j-preserved : goal.loop-j-preserved
loop-j-preserved c =
    let l = c.loop-j in
    let v = l.invariant in
    let t = c.loop-j-test.true in
    let here = cells_of l.times c.args.levels.now c.args.marks.now l.numbers in
    let r = closing_on _ here v.0 _ _ _ v.2 t v.1 _ c.edit_at-edit.ensures _ c.put_edit.ensures in
    (r.0, v.1, r.1)

pub returns : goal.returns
returns c =
    let l = c.loop-j in
    let v = l.invariant in
    let here = cells_of l.times c.args.levels.now c.args.marks.now l.numbers in
    closed _ here v.0 _ _ _ v.2 c.loop-j-test.false c.args.at refl (ap (λ (k : ℕ). k - 1) c.requires.2)
