use mathlib.Core.Path.{refl, sym, ap}
use Rattle.listing.specs.Pieces.{add_all}
use Rattle.tape_words.specs.Joining.{one, further, named}
use Rattle.tape_story.specs.Asides.{samples_text}
use borrow.Author.Rules.{rules}
use Rattle.tape_story.proofs.put_samples.Goals as goal

pub returns-in-Some : goal.returns-in-Some
unfolding samples_text
returns-in-Some c =
    let e1 = c.put_numbered-to.ensures in
    let e2 = one _ _ c.put_bytes-to.ensures in
    let e3 = c.put_peak.ensures in
    let r = further _ _ _ e1 (further _ _ _ e2 e3) in
    named _ (ap samples_text (sym c.in-Some.is)) r

pub returns-in-None : goal.returns-in-None
unfolding add_all samples_text
returns-in-None c =
    named _ (ap samples_text (sym c.in-None.is)) refl
