use Rattle.listing.specs.Pieces.{add_all}
use Rattle.tape_words.specs.Words.{thousandths_text}
use Rattle.tape_words.specs.Joining.{one, further}
use borrow.Author.Rules.{rules}
use Rattle.tape_words.proofs.put_thousandths.Goals as goal

pub returns : goal.returns
unfolding thousandths_text
returns c =
    let r = further _ _ _ (one _ _ c.put_decimal-to.ensures) (further _ _ _ (one _ _ c.put_bytes-to.ensures) (further _ _ _ (one _ _ c.put_decimal-to-2.ensures) (further _ _ _ (one _ _ c.put_decimal-to-3.ensures) (one _ _ c.put_decimal.ensures)))) in r
