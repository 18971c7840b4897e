use Rattle.tape_words.specs.Joining.{one, further}
use Rattle.tape_sheet.specs.Elements.{open_text}
use borrow.Author.Rules.{rules}
use Rattle.tape_sheet.proofs.put_open_text.Goals as goal

pub returns : goal.returns
unfolding open_text
returns c =
    let e1 = one _ _ c.put_bytes-to.ensures in
    let e2 = one _ _ c.put_bytes-to-2.ensures in
    let e3 = one _ _ c.put_bytes-to-3.ensures in
    let e4 = c.put_attribute-to.ensures in
    let e5 = c.put_attribute-to-2.ensures in
    let e6 = one _ _ c.put_bytes.ensures in
    let r = further _ _ _ e1 (further _ _ _ e2 (further _ _ _ e3 (further _ _ _ e4 (further _ _ _ e5 e6)))) in
    r
