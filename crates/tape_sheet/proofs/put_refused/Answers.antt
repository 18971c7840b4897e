use Rattle.tape_words.specs.Joining.{one, further}
use Rattle.tape_sheet.specs.Elements.{refused}
use borrow.Author.Rules.{rules}
use Rattle.tape_sheet.proofs.put_refused.Goals as goal

pub returns : goal.returns
unfolding refused
returns c =
    let e1 = c.put_open_mark-to.ensures in
    let e2 = one _ _ c.put_decimal-to.ensures in
    let e3 = one _ _ c.put_bytes-to.ensures in
    let e4 = c.put_call_at-to.ensures in
    let e5 = one _ _ c.put_bytes-to-2.ensures in
    let e6 = c.put_refusal-to.ensures in
    let e7 = one _ _ c.put_bytes.ensures in
    let r = further _ _ _ e1 (further _ _ _ e2 (further _ _ _ e3 (further _ _ _ e4 (further _ _ _ e5 (further _ _ _ e6 e7))))) in
    r
