use Rattle.tape_words.specs.Joining.{one, further}
use Rattle.tape_story.specs.Lines.{stop_text}
use borrow.Author.Rules.{rules}
use Rattle.tape_story.proofs.put_stop.Goals as goal

pub returns : goal.returns
unfolding stop_text
returns c =
    let e1 = c.put_time-to.ensures in
    let e2 = c.put_numbered-to.ensures in
    let e3 = one _ _ c.put_bytes-to.ensures in
    let e4 = c.put_refusal-to.ensures in
    let e5 = one _ _ c.put_bytes.ensures in
    let r = further _ _ _ e1 (further _ _ _ e2 (further _ _ _ e3 (further _ _ _ e4 e5))) in
    r
