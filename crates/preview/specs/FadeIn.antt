-- The step of a phase between two entries of the table. The theorem about it is in proofs/FadeIn.antt. Assumes nothing.
use Rattle.std.specs.Prelude.{Float}
use Rattle.floats.specs.Arithmetic.{f32}

-- 1/1024
abbrev pub step : Float
step = f32 0x3a800000
