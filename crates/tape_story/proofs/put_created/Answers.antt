use Rattle.tape_words.specs.Joining.{one, further}
use Rattle.tape_story.specs.Lines.{created_text}
use borrow.Author.Rules.{rules}
use Rattle.tape_story.proofs.put_created.Goals as goal

pub returns : goal.returns
unfolding created_text
returns c =
    let e1 = c.put_numbered-to.ensures in
    let e2 = one _ _ c.put_mode-to.ensures in
    let e3 = c.put_numbered.ensures in
    let r = further _ _ _ e1 (further _ _ _ e2 e3) in
    r
