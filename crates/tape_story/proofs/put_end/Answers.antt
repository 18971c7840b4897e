use Rattle.tape_words.specs.Joining.{one, further}
use Rattle.tape_story.specs.Lines.{end_text}
use borrow.Author.Rules.{rules}
use Rattle.tape_story.proofs.put_end.Goals as goal

pub returns : goal.returns
unfolding end_text
returns c =
    let e1 = c.put_time-to.ensures in
    let e2 = one _ _ c.put_bytes-to.ensures in
    let e3 = c.put_sum-to.ensures in
    let e4 = one _ _ c.put_bytes.ensures in
    let r = further _ _ _ e1 (further _ _ _ e2 (further _ _ _ e3 e4)) in
    r
