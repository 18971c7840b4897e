use mathlib.Core.Path.{refl, sym, ap}
use Rattle.listing.specs.Pieces.{add_all}
use Rattle.tape_words.specs.Joining.{one, further, named}
use Rattle.tape_story.specs.Asides.{refused_text}
use borrow.Author.Rules.{rules}
use Rattle.tape_story.proofs.put_refused.Goals as goal

pub returns-in-Some : goal.returns-in-Some
unfolding refused_text
returns-in-Some c =
    let e1 = one _ _ c.put_bytes-to.ensures in
    let e2 = c.put_refusal.ensures in
    let r = further _ _ _ e1 e2 in
    named _ (ap refused_text (sym c.in-Some.is)) r

pub returns-in-None : goal.returns-in-None
unfolding add_all refused_text
returns-in-None c =
    named _ (ap refused_text (sym c.in-None.is)) refl
