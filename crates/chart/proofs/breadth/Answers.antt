use borrow.Author.Tests.{le-leb, lt-leb}
use Rattle.chart.specs.Scale.{breadth_of}
use mathlib.Core.Path.{refl, sym}
use Rattle.chart.proofs.breadth.Goals as goal

pub returns-then-b-a : goal.returns-then-b-a
unfolding breadth_of
returns-then-b-a c = rw (sym c.column-a.ensures.value, sym c.column-b.ensures.value, le-leb _ _ c.if-b-a.true) refl

pub returns-else-b-a : goal.returns-else-b-a
unfolding breadth_of
returns-else-b-a c = rw (sym c.column-a.ensures.value, sym c.column-b.ensures.value, lt-leb _ _ c.if-b-a.false) refl
