use Rattle.tape_words.specs.Words.{call_at}
use Rattle.tape_words.specs.Joining.{further}
use borrow.Author.Rules.{rules}
use Rattle.tape_words.proofs.put_call_at.Goals as goal

pub returns : goal.returns
unfolding call_at
returns c =
    let e1 = c.put_call-to.ensures in
    let e2 = c.put_timed.ensures in
    let r = further _ _ _ e1 e2 in
    r
