use Rattle.tape_words.specs.Joining.{one, further}
use Rattle.tape_story.specs.Lines.{heard_text}
use borrow.Author.Rules.{rules}
use Rattle.tape_story.proofs.put_heard.Goals as goal

pub returns : goal.returns
unfolding heard_text
returns c =
    let e1 = c.put_samples-to.ensures in
    let e2 = one _ _ c.put_bytes.ensures in
    let r = further _ _ _ e1 e2 in
    r
