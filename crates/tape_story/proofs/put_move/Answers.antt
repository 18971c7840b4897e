use mathlib.Core.Path.{refl}
use borrow.Author.Tests.{eq-eqb, ne_eqb}
use Rattle.listing.specs.Pieces.{add_all}
use Rattle.tape_words.specs.Joining.{one, further, named}
use Rattle.tape_story.specs.Lines.{becomes_text, move_text}
use borrow.Author.Rules.{rules}
use Rattle.tape_story.proofs.put_move.Goals as goal

pub returns-then-place-was : goal.returns-then-place-was
unfolding add_all move_text
returns-then-place-was c =
    rw (eq-eqb _ _ c.if-place-was.true) refl

pub returns : goal.returns
unfolding becomes_text move_text
returns c =
    let e1 = c.put_numbered-to.ensures in
    let e2 = one _ _ c.put_by_place.ensures in
    let r = further _ _ _ e1 e2 in
    named _ (rw (ne_eqb _ _ c.if-place-was.false) refl) r
