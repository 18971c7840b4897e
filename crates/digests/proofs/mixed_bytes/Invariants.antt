use Rattle.std.proofs.Common.{◌≡◌, drop}
use Rattle.digests.specs.Digests.{mixed_all}
use Rattle.digests.proofs.mixed_bytes.Given as goal

abbrev pub invariant-loop-byte : goal.invariant-loop-byte
invariant-loop-byte l = mixed_all l.digest (drop l.byte-index l.bytes) ≡ mixed_all 0 l.bytes
