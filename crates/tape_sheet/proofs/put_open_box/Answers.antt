use Rattle.tape_words.specs.Joining.{one, further}
use Rattle.tape_sheet.specs.Elements.{open_box}
use borrow.Author.Rules.{rules}
use Rattle.tape_sheet.proofs.put_open_box.Goals as goal

pub returns : goal.returns
unfolding open_box
returns c =
    let e1 = one _ _ c.put_bytes-to.ensures in
    let e2 = one _ _ c.put_bytes-to-2.ensures in
    let e3 = one _ _ c.put_bytes-to-3.ensures in
    let e4 = c.put_bounds-to.ensures in
    let e5 = one _ _ c.put_bytes.ensures in
    let r = further _ _ _ e1 (further _ _ _ e2 (further _ _ _ e3 (further _ _ _ e4 e5))) in
    r
