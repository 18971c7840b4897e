use Rattle.tape_words.specs.Joining.{one, further}
use Rattle.tape_sheet.specs.Elements.{attribute}
use borrow.Author.Rules.{rules}
use Rattle.tape_sheet.proofs.put_attribute.Goals as goal

pub returns : goal.returns
unfolding attribute
returns c =
    let e1 = one _ _ c.put_bytes-to.ensures in
    let e2 = one _ _ c.put_bytes-to-2.ensures in
    let e3 = c.put_numbered-to.ensures in
    let e4 = one _ _ c.put_bytes.ensures in
    let r = further _ _ _ e1 (further _ _ _ e2 (further _ _ _ e3 e4)) in
    r
