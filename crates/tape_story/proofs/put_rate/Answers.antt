use mathlib.Core.Path.{ap}
use Prim.Native.Nat.{ℕ}
use Rattle.tape_words.specs.Words.{thousandths_text}
use Rattle.tape_words.specs.Joining.{one, further, named}
use Rattle.tape_story.specs.Lines.{rate_text}
use borrow.Author.Rules.{rules}
use Rattle.tape_story.proofs.put_rate.Goals as goal

pub returns : goal.returns
unfolding rate_text
returns c =
    let e1 = one _ _ c.put_bytes-to.ensures in
    let e2 = named _ (ap (λ (y¹ : ℕ). thousandths_text y¹) c.thousandths.ensures) c.put_thousandths.ensures in
    let r = further _ _ _ e1 e2 in
    r
