-- `apply::sounding` meets its contract. Assumes nothing.
use borrow.Author.Tests.{eq-eqb, ne_eqb}
use Rattle.apply.specs.Applying.{sounding_of}
use Rattle.apply.proofs.sounding.Goals as goal

pub returns-then-n-ne0 : goal.returns-then-n-ne0
unfolding sounding_of
returns-then-n-ne0 c = rw (← c.refusal-n.ensures, ne_eqb _ 0 c.if-n-ne0.true)

pub returns : goal.returns
unfolding sounding_of
returns c = rw (← c.refusal-n.ensures, eq-eqb _ 0 c.if-n-ne0.false)
