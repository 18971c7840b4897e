use Rattle.tape_words.specs.Joining.{one, further}
use Rattle.tape_story.specs.Lines.{edited_text}
use borrow.Author.Rules.{rules}
use Rattle.tape_story.proofs.put_edited.Goals as goal

pub returns : goal.returns
unfolding edited_text
returns c =
    let e1 = one _ _ c.put_bytes-to.ensures in
    let e2 = c.put_answer.ensures in
    let r = further _ _ _ e1 e2 in
    r
