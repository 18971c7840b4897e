use Rattle.tape_words.specs.Joining.{one, further}
use borrow.Author.Rules.{rules}
use Rattle.tape_words.proofs.put_numbered.Goals as goal

pub returns : goal.returns
returns c =
    let r = further _ _ _ (one _ _ c.put_bytes-to.ensures) (one _ _ c.put_decimal.ensures) in r
