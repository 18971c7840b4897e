use Rattle.std.proofs.Common.{refl}
use borrow.Author.Tests.{eq-eqb, ne_eqb}
use Rattle.pool_file.specs.Pools.{is_option}
use Rattle.pool_file.proofs.is_option.Goals as goal

pub returns-then-argument-ne6 : goal.returns-then-argument-ne6
unfolding is_option
returns-then-argument-ne6 c = rw (ne_eqb _ _ c.if-argument-ne6.true) refl

pub returns : goal.returns
unfolding is_option
returns c = rw (eq-eqb _ _ c.if-argument-ne6.false, c.word.ensures) refl
