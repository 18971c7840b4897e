use Rattle.std.proofs.Common.{◌≡◌, min, take, drop}
use Rattle.tape.specs.Fields.{from_little_endian}
use Rattle.tape.proofs.fields.low.Given as goal

abbrev pub invariant-loop-i : goal.invariant-loop-i
invariant-loop-i l = l.n ≡ from_little_endian (drop l.i (take (min l.width 8) l.bs))
