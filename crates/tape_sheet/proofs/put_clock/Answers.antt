use Rattle.tape_words.specs.Joining.{one, further}
use Rattle.tape_sheet.specs.Elements.{clock_text}
use borrow.Author.Rules.{rules}
use Rattle.tape_sheet.proofs.put_clock.Goals as goal

pub shape_of-out : goal.shape_of-out
shape_of-out c =
    let g1 = c.out-1.given in let g2 = c.out-2-1.given in let g3 = c.out-3-1.given in let g4 = c.out-4-1.given in let g5 = c.out-5-1.given in let g6 = c.out-6-1.given in
    let g7 = c.out-7-1.given in
    search rules

pub returns : goal.returns
unfolding clock_text
returns c =
    let e1 = one _ _ c.put_decimal-to.ensures in
    let e2 = one _ _ c.put_bytes-to.ensures in
    let e3 = one _ _ c.put_decimal-to-2.ensures in
    let e4 = one _ _ c.put_decimal-to-3.ensures in
    let e5 = one _ _ c.put_bytes-to-2.ensures in
    let e6 = one _ _ c.put_decimal-to-4.ensures in
    let e7 = one _ _ c.put_decimal.ensures in
    let r = further _ _ _ e1 (further _ _ _ e2 (further _ _ _ e3 (further _ _ _ e4 (further _ _ _ e5 (further _ _ _ e6 e7))))) in
    r
