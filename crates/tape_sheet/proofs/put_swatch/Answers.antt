use Rattle.tape_words.specs.Joining.{one, further}
use Rattle.tape_sheet.specs.Elements.{swatch}
use borrow.Author.Rules.{rules}
use Rattle.tape_sheet.proofs.put_swatch.Goals as goal

pub returns : goal.returns
unfolding swatch
returns c =
    let e1 = c.put_standing-to.ensures in
    let e2 = one _ _ c.put_bytes-to.ensures in
    let e3 = c.put_open_text-to.ensures in
    let e4 = one _ _ c.put_name-to.ensures in
    let e5 = one _ _ c.put_bytes.ensures in
    let r = further _ _ _ e1 (further _ _ _ e2 (further _ _ _ e3 (further _ _ _ e4 e5))) in
    r
