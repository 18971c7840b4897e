use Rattle.tape_words.specs.Joining.{further}
use Rattle.tape_sheet.specs.Elements.{bounds}
use borrow.Author.Rules.{rules}
use Rattle.tape_sheet.proofs.put_bounds.Goals as goal

pub returns : goal.returns
unfolding bounds
returns c =
    let e1 = c.put_attribute-to.ensures in
    let e2 = c.put_attribute-to-2.ensures in
    let e3 = c.put_attribute-to-3.ensures in
    let e4 = c.put_attribute.ensures in
    let r = further _ _ _ e1 (further _ _ _ e2 (further _ _ _ e3 e4)) in
    r
