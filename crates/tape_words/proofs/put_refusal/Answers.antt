use Rattle.tape_words.specs.Words.{refusal_text}
use Rattle.tape_words.specs.Joining.{one, further}
use borrow.Author.Rules.{rules}
use Rattle.tape_words.proofs.put_refusal.Goals as goal

pub returns : goal.returns
unfolding refusal_text
returns c =
    let e1 = c.put_numbered-to.ensures in
    let e2 = one _ _ c.put_bytes-to.ensures in
    let e3 = one _ _ c.refusal_text.ensures in
    let r = further _ _ _ e1 (further _ _ _ e2 e3) in
    r
