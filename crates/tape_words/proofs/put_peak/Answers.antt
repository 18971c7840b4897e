use mathlib.Core.Path.{◌≡◌, refl, sym, ◌∙◌, ap}
use borrow.Author.Tests.{eq-eqb, ne_eqb}
use lib.Dec.{eqb}
use Rattle.chart.specs.Scale.{scaled_of}
use Rattle.tape_words.specs.Words.{peak_text, thousandths_text}
use Rattle.tape_words.specs.Joining.{one, named}
use borrow.Author.Rules.{rules}
use Rattle.tape_words.proofs.put_peak.Goals as goal

pub returns-then-n : goal.returns-then-n
unfolding peak_text
returns-then-n c =
    let e = sym c.scaled-n.ensures ∙ c.if-n.true in named _ (rw (eq-eqb _ _ e) refl) (one _ _ c.put_bytes.ensures)

pub returns : goal.returns
unfolding peak_text
returns c =
    let e = ne_eqb _ _ c.if-n.false in named _ (rw (← c.scaled-n.ensures, e) refl) c.put_thousandths.ensures
