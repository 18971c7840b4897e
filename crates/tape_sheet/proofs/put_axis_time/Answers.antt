use mathlib.Core.Path.{refl}
use borrow.Author.Tests.{lt-ltb, le-ltb}
use Rattle.tape_words.specs.Joining.{named}
use Rattle.tape_sheet.specs.Elements.{axis_time}
use borrow.Author.Rules.{rules}
use Rattle.tape_sheet.proofs.put_axis_time.Goals as goal

pub returns-then-step-lt1000000 : goal.returns-then-step-lt1000000
unfolding axis_time
returns-then-step-lt1000000 c =
    named _ (rw (lt-ltb _ _ c.if-step-lt1000000.true) refl) c.put_time.ensures

pub returns : goal.returns
unfolding axis_time
returns c =
    named _ (rw (le-ltb _ _ c.if-step-lt1000000.false) refl) c.put_clock.ensures
