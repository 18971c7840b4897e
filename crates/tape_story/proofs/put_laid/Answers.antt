use mathlib.Core.Path.{ap}
use mathlib.Core.Bool.{Bool, cond}
use mathlib.Core.List.{[], ◌∷◌}
use Rattle.listing.specs.Ascii.{ascii}
use Rattle.tape_words.specs.Joining.{one, further, named}
use Rattle.tape_story.specs.Lines.{laid_text}
use borrow.Author.Rules.{rules}
use Rattle.tape_story.proofs.put_laid.Goals as goal

pub returns : goal.returns
unfolding laid_text
returns c =
    let e1 = c.put_numbered-to.ensures in
    let e2 = named _ (ap (λ (b : Bool). cond b (ascii " goes straight to sounding") (ascii " waits") ∷ []) c.is_sounding.ensures) (one _ _ c.put_either.ensures) in
    let r = further _ _ _ e1 e2 in
    r
