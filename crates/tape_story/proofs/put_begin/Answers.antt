use Rattle.tape_words.specs.Joining.{one, further}
use Rattle.tape_story.specs.Lines.{begin_text}
use borrow.Author.Rules.{rules}
use Rattle.tape_story.proofs.put_begin.Goals as goal

pub returns : goal.returns
unfolding begin_text
returns c =
    let e1 = c.put_time-to.ensures in
    let e2 = one _ _ c.put_bytes-to.ensures in
    let e3 = c.put_call-to.ensures in
    let e4 = c.put_refused.ensures in
    let r = further _ _ _ e1 (further _ _ _ e2 (further _ _ _ e3 e4)) in
    r
