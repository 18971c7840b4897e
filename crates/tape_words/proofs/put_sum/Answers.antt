use mathlib.Core.Path.{ap}
use mathlib.Core.Bool.{Bool}
use mathlib.Core.List.{[], ◌∷◌}
use Rattle.tape_words.specs.Words.{equals_text, sum_text}
use Rattle.tape_words.specs.Joining.{one, further, named}
use borrow.Author.Rules.{rules}
use Rattle.tape_words.proofs.put_sum.Goals as goal

pub returns : goal.returns
unfolding sum_text
returns c =
    let e1 = one _ _ c.put_decimal-to.ensures in
    let e2 = named _ (ap (λ (b : Bool). equals_text b ∷ []) c.is_sum-good.ensures) (one _ _ c.put_either-to.ensures) in
    let e3 = one _ _ c.put_decimal-to-2.ensures in
    let e4 = c.put_numbered-to.ensures in
    let e5 = c.put_numbered-to-2.ensures in
    let e6 = c.put_numbered-to-3.ensures in
    let e7 = one _ _ c.put_bytes.ensures in
    let r = further _ _ _ e1 (further _ _ _ e2 (further _ _ _ e3 (further _ _ _ e4 (further _ _ _ e5 (further _ _ _ e6 e7))))) in
    r
