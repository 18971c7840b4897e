use Rattle.std.proofs.Common.{refl}
use borrow.Author.Tests.{eq-eqb, ne_eqb}
use Rattle.pool_file.specs.Pools.{known_by}
use Rattle.pool_file.proofs.known_by.Goals as goal

pub returns-then-word32-eq544501094 : goal.returns-then-word32-eq544501094
unfolding known_by
returns-then-word32-eq544501094 c = rw (← c.word32.ensures, eq-eqb _ _ c.if-word32-eq544501094.true) c.is_mono_float.ensures

pub returns : goal.returns
unfolding known_by
returns c = rw (← c.word32.ensures, ne_eqb _ _ c.if-word32-eq544501094.false) refl
