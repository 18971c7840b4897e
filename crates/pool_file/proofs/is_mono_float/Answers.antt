use Rattle.std.proofs.Common.{refl}
use borrow.Author.Tests.{eq-eqb, ne_eqb}
use Rattle.pool_file.specs.Pools.{mono_float}
use Rattle.pool_file.proofs.is_mono_float.Goals as goal

pub returns-then-word-ne1 : goal.returns-then-word-ne1
unfolding mono_float
returns-then-word-ne1 c = rw (← c.word.ensures, ne_eqb _ _ c.if-word-ne1.true) refl

pub returns-then-word-ne32 : goal.returns-then-word-ne32
unfolding mono_float
returns-then-word-ne32 c = rw (← c.word.ensures, eq-eqb _ _ c.if-word-ne1.false, ← c.word-2.ensures, ne_eqb _ _ c.if-word-ne32.true) refl

pub returns-then-tag-eq65534 : goal.returns-then-tag-eq65534
unfolding mono_float
returns-then-tag-eq65534 c =
    rw (
      ← c.word.ensures,
      eq-eqb _ _ c.if-word-ne1.false,
      ← c.word-2.ensures,
      eq-eqb _ _ c.if-word-ne32.false,
      ← c.word-tag.ensures,
      eq-eqb _ _ c.if-tag-eq65534.true,
      ← c.word-then-tag-eq65534.ensures,
    ) refl

pub returns : goal.returns
unfolding mono_float
returns c =
    rw (
      ← c.word.ensures,
      eq-eqb _ _ c.if-word-ne1.false,
      ← c.word-2.ensures,
      eq-eqb _ _ c.if-word-ne32.false,
      ← c.word-tag.ensures,
      ne_eqb _ _ c.if-tag-eq65534.false,
    ) refl
