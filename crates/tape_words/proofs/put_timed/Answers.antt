use Rattle.tape_words.specs.Joining.{one, further}
use borrow.Author.Rules.{rules}
use Rattle.tape_words.proofs.put_timed.Goals as goal

pub returns : goal.returns
returns c =
    let e1 = one _ _ c.put_bytes-to.ensures in
    let e2 = c.put_time.ensures in
    let r = further _ _ _ e1 e2 in
    r
