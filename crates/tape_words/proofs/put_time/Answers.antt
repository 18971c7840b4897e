use Rattle.tape_words.specs.Words.{time_text}
use Rattle.tape_words.specs.Joining.{one, further}
use borrow.Author.Rules.{rules}
use Rattle.tape_words.proofs.put_time.Goals as goal

pub returns : goal.returns
unfolding time_text
returns c =
    let r = further _ _ _ c.put_thousandths-to.ensures (one _ _ c.put_bytes.ensures) in r
