use mathlib.Core.Path.{refl}
use borrow.Author.Tests.{eq-eqb, ne_eqb}
use Rattle.listing.specs.Pieces.{add_all}
use Rattle.tape_words.specs.Joining.{one, further, named}
use Rattle.tape_story.specs.Lines.{quiet_text}
use borrow.Author.Rules.{rules}
use Rattle.tape_story.proofs.put_quiet.Goals as goal

pub returns-then-calls-eq0 : goal.returns-then-calls-eq0
unfolding add_all quiet_text
returns-then-calls-eq0 c =
    rw (eq-eqb _ _ c.if-calls-eq0.true) refl

pub returns : goal.returns
unfolding quiet_text
returns c =
    let e1 = c.put_time-to.ensures in
    let e2 = c.put_numbered-to.ensures in
    let e3 = one _ _ c.put_bytes-to.ensures in
    let e4 = c.put_peak-to.ensures in
    let e5 = one _ _ c.put_bytes.ensures in
    let r = further _ _ _ e1 (further _ _ _ e2 (further _ _ _ e3 (further _ _ _ e4 e5))) in
    named _ (rw (ne_eqb _ _ c.if-calls-eq0.false) refl) r
