-- `listing::put_samples` meets its contract: the samples are put piece by piece. Assumes nothing.
use borrow.Author.Rules.{rules}
use native.Mathlib.Omega.{arith}
use lib.Ieee.{nan}
use lib.ListN.{get_or}
use Rattle.listing.specs.Putting.{first_piece, piece_fits, next_piece, last_piece, same-long, place-left}
use Rattle.listing.specs.Text.{samples_from}
use Rattle.listing.proofs.Lines.{sample_text, sample_long, samples_step, samples_end, length_from}
use Rattle.listing.proofs.put_samples.Goals as goal

pub loop-i-init : goal.loop-i-init
loop-i-init c = first_piece samples_from _ _ _ (let p = c.requires in let n = length_from c.args.samples.now in omega arith)

pub put_sample-requires : goal.put_sample-requires
put_sample-requires c =
    let xs = c.args.samples.now in
    let x = get_or xs c.loop-i.i nan in
    let end = c.ending-end.result in
    let s = samples_step xs c.loop-i.i nan c.loop-i-test.true end c.ending-end.ensures in
    let f = piece_fits samples_from _ _ _ c.loop-i.invariant (sample_text x end) s in
    let n = sample_long x end in
    omega arith

pub overflow_add-to : goal.overflow_add-to
overflow_add-to c =
    let p = place-left c.loop-i.invariant.put in
    let r = c.loop-i.invariant.room in
    let n = length_from c.args.samples.now in
    search rules

pub loop-i-preserved : goal.loop-i-preserved
loop-i-preserved c =
    let xs = c.args.samples.now in
    let x = get_or xs c.loop-i.i nan in
    let end = c.ending-end.result in
    let h = c.loop-i-test.true in
    let s = samples_step xs c.loop-i.i nan h end c.ending-end.ensures in
    let n = sample_long x end in
    next_piece samples_from _ _ _ c.loop-i.invariant h (sample_text x end) s _ c.put_sample.ensures _ (omega arith)

pub shape_of-out : goal.shape_of-out
shape_of-out c = same-long c.loop-i.invariant.put

pub returns : goal.returns
returns c =
    let p = last_piece samples_from _ _ _ c.loop-i.invariant c.loop-i-test.false samples_end in
    record { out_after = p.0; value = let q = p.1 in omega arith }
