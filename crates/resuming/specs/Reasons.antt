-- Why a run can stop: one that is told that its tape goes on finds no end of it, and one that has all of it does not wait for bytes. Assumes nothing.
use Rattle.std.specs.Prelude.{Bool}
use Rattle.std.proofs.Math.Bool.{true, false}
use Rattle.tape.specs.declared.reader.Read.{Read}
use Rattle.record_output.specs.declared.Pause.{Pause}
use Rattle.record_output.specs.declared.Pause.TheVariants.{End, Refused, Full, Short}

-- the reasons that a run can give, by what it is told of its tape
abbrev pub Possible : (whole : Bool) → Pause → Type 0
Possible true End = Unit {0}
Possible true (Refused k) = Unit {0}
Possible true Full = Unit {0}
Possible true Short = ⊥
Possible false End = ⊥
Possible false (Refused k) = Unit {0}
Possible false Full = Unit {0}
Possible false Short = Unit {0}

-- ---- where 47 bytes are left, or one, the tape is not at its end

abbrev pub is_end : Read → Bool
is_end (Read.Record k call next) = false
is_end (Read.Refused k n) = false
is_end Read.End = true
