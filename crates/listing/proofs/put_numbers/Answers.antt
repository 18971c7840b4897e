-- `listing::put_numbers` meets its contract: the numbers are put piece by piece. Assumes nothing.
use mathlib.Core.List.{◌∷◌}
use lib.ListN.{get_or}
use Rattle.listing.specs.Putting.{first_piece, piece_fits, next_piece, last_piece, same-long}
use Rattle.listing.specs.Text.{decimal, spaced}
use Rattle.listing.proofs.Lines.{spaced-step, spaced_end}
use Rattle.listing.proofs.put_numbers.Goals as goal

pub loop-n-init : goal.loop-n-init
loop-n-init c = first_piece spaced _ _ _ c.requires

pub put_number-to-requires : goal.put_number-to-requires
put_number-to-requires c =
    let n = get_or c.args.numbers.now c.loop-n.n-index 0 in
    piece_fits spaced _ _ _ c.loop-n.invariant (32 ∷ decimal n) (spaced-step _ _ c.loop-n-test.true)

pub loop-n-preserved : goal.loop-n-preserved
loop-n-preserved c =
    let n = get_or c.args.numbers.now c.loop-n.n-index 0 in
    let h = c.loop-n-test.true in
    let p = c.put_number-to.ensures in
    next_piece spaced _ _ _ c.loop-n.invariant h (32 ∷ decimal n) (spaced-step _ _ h) _ p.out_after _ p.value

pub shape_of-out : goal.shape_of-out
shape_of-out c = same-long c.loop-n.invariant.put

pub returns : goal.returns
returns c = let r = last_piece spaced _ _ _ c.loop-n.invariant c.loop-n-test.false spaced_end in record { out_after = r.0; value = r.1 }
