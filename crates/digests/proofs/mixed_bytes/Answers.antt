use Rattle.std.proofs.Common.{ap, sym, refl, ◌∙◌}
use Rattle.digests.specs.Digests.{mixed}
use Rattle.digests.proofs.Mixing.{mixed_on, mixed_through}
use Rattle.digests.proofs.mixed_bytes.Goals as goal

pub loop-byte-init : goal.loop-byte-init
loop-byte-init c = refl

pub loop-byte-preserved : goal.loop-byte-preserved
loop-byte-preserved c = mixed_on _ c.loop-byte.digest _ c.loop-byte-test.true (c.mixed-digest.ensures ∙ ap (mixed c.loop-byte.digest) c.from.ensures) ∙ c.loop-byte.invariant

pub returns : goal.returns
returns c = sym (mixed_through _ _ _ c.loop-byte-test.false) ∙ c.loop-byte.invariant
