-- `listing::kind_line` meets its contract: digits, numbers and the line's end. Assumes nothing.
use mathlib.Core.Path.{refl, ap, ◌∙◌}
use mathlib.Core.List.{[], ◌∷◌}
use native.Mathlib.Omega.{arith}
use lib.ListN.{length, length-set}
use lib.Seq.{length-sets}
use Rattle.listing.specs.Putting.{further, same-long, put_whole, put-none}
use Rattle.listing.specs.Text.{digits}
use Rattle.listing.proofs.Lines.{kind_long, kind_put}
use Rattle.listing.proofs.kind_line.Goals as goal

pub returns-then-out-spaced_length : goal.returns-then-out-spaced_length
returns-then-out-spaced_length c =
    let n = kind_long c.args.kind c.args.numbers.now in
    let l = c.spaced_length.ensures.value in
    let t = c.if-out-spaced_length.true in
    let r = put-none _ _ (omega arith) in record { out_after = r.0; value = r.1 }

pub put_numbers-to-requires : goal.put_numbers-to-requires
put_numbers-to-requires c =
    let l = c.spaced_length.ensures.value in
    let t = c.if-out-spaced_length.false in
    let s = ap length c.put_digits.ensures ∙ length-sets _ 0 (digits 16 2 c.args.kind) in
    omega arith

pub bounds-out-to : goal.bounds-out-to
bounds-out-to c =
    let a = c.args in
    let n = c.put_numbers-to.ensures in
    let p = kind_put _ _ _ a.kind a.numbers.now _ c.put_digits.ensures n.out_after n.value in
    let s = same-long p in
    let l = c.spaced_length.ensures.value in
    let q = n.value in
    let t = c.if-out-spaced_length.false in
    omega arith

pub overflow_add-result : goal.overflow_add-result
overflow_add-result c =
    let l = c.spaced_length.ensures in
    let q = c.put_numbers-to.ensures.value in
    omega arith

pub shape_of-out : goal.shape_of-out
shape_of-out c =
    let a = c.args in
    let n = c.put_numbers-to.ensures in
    let p = kind_put _ _ _ a.kind a.numbers.now _ c.put_digits.ensures n.out_after n.value in
    simp length-set (same-long p)

pub returns : goal.returns
returns c =
    let a = c.args in
    let n = c.put_numbers-to.ensures in
    let p = kind_put _ _ _ a.kind a.numbers.now _ c.put_digits.ensures n.out_after n.value in
    let l = c.spaced_length.ensures.value in
    let q = n.value in
    let t = c.if-out-spaced_length.false in
    let r = put_whole (further (10 ∷ []) [] p _ refl) (omega arith) in record { out_after = r.0; value = r.1 }
