use Rattle.tape_words.specs.Joining.{one, further}
use Rattle.tape_sheet.specs.Elements.{edit_title}
use borrow.Author.Rules.{rules}
use Rattle.tape_sheet.proofs.put_edit_title.Goals as goal

pub returns : goal.returns
unfolding edit_title
returns c =
    let e1 = c.put_call_at-to.ensures in
    let e2 = one _ _ c.put_bytes-to.ensures in
    let e3 = c.put_answer.ensures in
    let r = further _ _ _ e1 (further _ _ _ e2 e3) in
    r
